-- Over copies of a valid set, no item of the data contradicts what was delivered.
use Rattle.std.proofs.Common.{◌≡◌, ◌<◌, ◌⊎◌, ℕ, zero, suc, ◌+◌, ◌-◌, List, [], ◌∷◌, ◌++◌}
use Rattle.std.proofs.Common.{length}
use Rattle.std.proofs.Common.{take, drop, Bool, true, false, cond, Option, Some, None, refl, sym}
use Rattle.std.proofs.Common.{ap}
use Rattle.std.proofs.Common.{◌∙◌, subst, inl, inr, append_assoc, arith, length-append, slice_get}
use Rattle.std.proofs.Common.{◌==◌, nat_lt, unwrap_or, IsSome, map, ◌≢◌, Ok, eq-eqb, not}
use Rattle.std.proofs.lemmas.Bool.Decides.{nat_tests}
use Rattle.std.specs.List.{AllByRecursion}
use Rattle.tape_image.specs.Tape.{TapeItem, block as block', bad, mark}
use Rattle.tape_blocks.specs.Block.{Portion}
use Rattle.tape_blocks.specs.Tight.{Filled, parts_of_all}
use Rattle.tape_set.specs.declared.position.Position.{Position}
use Rattle.tape_set.specs.declared.position.Position.TheVariants.{Awaits, Finished}
use Rattle.tape_set.specs.Position.{awaiting, sect_of, block_of}
use Rattle.tape_set.specs.Layout.{FileSet, Section, Placed, Entry, a_data_block, a_mark, item_of}
use Rattle.tape_set.specs.Layout.{data_group, trailer_group, entries, items, nth, file_of}
use Rattle.tape_set.specs.Layout.{section_of, Volume}
use Rattle.tape_set.specs.Before.{before, section_parts, parts_up_to, blocks_of}
use Rattle.tape_set.specs.Before.{parts_at, parts_of, IsIn}
use Rattle.tape_set.specs.Lawful.{IsLawful, FileForm, TellsForm}
use Rattle.tape_set.specs.Reach.{stopped, good_run}
use Rattle.tape_set.proofs.{Everywhere.every_rest, Forms.blocks_held}
use Rattle.tape_core.specs.declared.event.{Heading.Heading}
use Rattle.tape_core.specs.declared.event.Phase.TheVariants.{DataWanted, TrailerWanted}
use Rattle.tape_core.specs.{State.State, Follows.InData, Follows.IsReading, Follows.FollowsFrom}
use Rattle.tape_core.specs.{Follows.Left, Follows.to_come, Follows.AtTrailer}
use Rattle.tape_label.specs.{declared.values.Trail1.Trail1, Reading.trail1_at}
use Rattle.tape_label.proofs.First.{trail1_again}
use Rattle.tape_blocks.specs.Judged.{begun_behind}
use Rattle.tape_set.specs.Layout.{a_label, ends_file}
use Rattle.tape_set.specs.Lawful.{IsTrailer, label_count}
use Rattle.tape_set.proofs.FileParts.{next_found, file_lawful, ends_at, before_end}
use Rattle.tape_core.specs.Table.{at_wanted_trailer, at_end, other_numbers, step_of, at_item}
use Rattle.tape_core.specs.Table.{Outcome, unless_complete}
use Rattle.tape_blocks.specs.{Block.Holds, Spans.InOrder}
use Rattle.tape_set.proofs.FileParts.{block_in_order}
use Rattle.tape_core.specs.Parts.{goes_on_at}
use Rattle.tape_core.proofs.BlockLaws.{first_part as first_unit}
use Rattle.tape_core.proofs.AwaitedSection.{its_file, on_it}
use Rattle.tape_core.proofs.Files.{ends_as, few_sections, whole_begun}
use Rattle.tape_core.proofs.TrailerSteps.{end_front}
use Rattle.tape_core.specs.Overlap.{Contains, Fits, Agrees, delivered_after, FitAll, Certified}
use Rattle.tape_core.specs.Overlap.{EndsSection}
use Rattle.tape_core.proofs.AwaitedSection.{wanted_at}
use Rattle.tape_core.proofs.{Aim.Aim, Aim.aim_of, Fronts.first_left, Fronts.here}
use Rattle.tape_core.proofs.{Files.get_behind, Files.no_parts_at}
use Rattle.tape_core.proofs.DataSteps.{count_cases, all_counted}

-- ---- lists

-- the first blocks from a given one on begin with that block
from_block : (blocks : List Filled) (count n : ℕ) (d : Filled) → slice_get blocks count ≡ Some d
    → count < n → drop count (take n blocks) ≡ d ∷ drop (count + 1) (take n blocks)
from_block [] zero n d h lt = absurd (cc)
from_block [] (suc count) n d h lt = absurd (cc)
from_block (b ∷ blocks) count zero d h lt = absurd (omega arith)
from_block (b ∷ blocks) zero (suc n) d h lt = let e : b ≡ d = cc in ap (λ z. z ∷ take n blocks) e
from_block (b ∷ blocks) (suc count) (suc n) d h lt =
    let e : suc count + 1 ≡ suc (count + 1) = omega arith in
    from_block blocks count n d h (omega arith)
    ∙ ap (λ z. d ∷ drop z (take (suc n) (b ∷ blocks))) (sym e)

none_from : (blocks : List Filled) (n : ℕ) → drop n (take n blocks) ≡ []
none_from [] zero = refl
none_from [] (suc n) = refl
none_from (b ∷ blocks) zero = refl
none_from (b ∷ blocks) (suc n) = none_from blocks n

-- ---- the parts that were delivered

-- what the section's blocks have from one of them on begins with its parts
one_more : (s : Section) (count n part : ℕ) (d : Filled) → slice_get s.blocks count ≡ Some d
    → count < n
    → delivered_after s count n part ≡ d.parts ++ delivered_after s (count + 1) n part
one_more s count n part d h lt =
    ap (λ z. parts_of_all z ++ take part (parts_at s.blocks n)) (from_block s.blocks count n d h lt)
    ∙ append_assoc d.parts (parts_of_all (drop (count + 1) (take n s.blocks)))
    (take part (parts_at s.blocks n))

-- at the block of the position only its first parts are left
last_ones : (s : Section) (n part : ℕ)
    → delivered_after s n n part ≡ take part (parts_at s.blocks n)
last_ones s n part =
    ap (λ z. parts_of_all z ++ take part (parts_at s.blocks n)) (none_from s.blocks n)

-- the parts before a position are those of earlier sections and those of its section
split_parts : (set : FileSet) (file sect n part : ℕ) (w : Section)
    → section_of set file sect ≡ Some w
    → before set file (Awaits sect n part)
    ≡ section_parts (take (sect - 1) (unwrap_or (file_of set file) []))
    ++ delivered_after w 0 n part
split_parts set file sect n part w found = go (file_of set file) refl
  where
    go : (o : Option (List Section)) → file_of set file ≡ o
        → before set file (Awaits sect n part)
        ≡ section_parts (take (sect - 1) (unwrap_or (file_of set file) []))
        ++ delivered_after w 0 n part
    go None e = absurd (let f : section_of set file sect ≡ Some w = found in cc)
    go (Some ss) e =
        let at_it : nth ss sect ≡ Some w = cc in
        rw e
        (ap (λ z. section_parts (take (sect - 1) ss) ++ parts_up_to (blocks_of z) n part) at_it)

-- the parts of a block are in order from what its first unit says
own_order : (form : FileForm) (bytes : List ℕ) (begun end : Bool) (parts : List Portion)
    → Holds form.format form.rec_len form.offset bytes parts → InOrder begun parts end
    → Contains form bytes parts
own_order form bytes begun end [] h o = (h, (goes_on_at form.format form.offset bytes, refl))
own_order form bytes begun end (p ∷ ps) h o =
    (h, (end, (sym (first_unit form.format form.rec_len form.offset bytes p ps h), o.1)))

module _ (aim : Aim) where
  open aim use {set, l, core, at, sect, block, part, k, w, found, good}

  -- the position is in the section needed
  in_section : (n : ℕ) → core.position ≡ stopped (here aim) sect block n
      → (p : ℕ) × (core.position ≡ Awaits sect n p)
  in_section n is = go (n == block) refl
    where
      go : (t : Bool) → (n == block) ≡ t → (p : ℕ) × (core.position ≡ Awaits sect n p)
      go true e =
          let same : n ≡ block = grind (arith, nat_tests) in
          (part, is ∙ (rw e refl ∙ ap (λ z. Awaits sect z part) (sym same)))
      go false e = (0, is ∙ rw e refl)

  -- if no block is left, no part of another block was delivered
  no_part : (n p : ℕ) → core.position ≡ Awaits sect n p → n ≡ length w.blocks → p ≡ 0
  no_part n p e m =
      let i : IsIn set core.file (Awaits sect n p) =
      subst (λ z. IsIn set core.file z) e at.stands.inside in
      let same : i.0 ≡ w = cc (i.1, found) in
      let none : parts_at w.blocks n ≡ [] =
      ap (λ z. parts_at w.blocks z) m ∙ no_parts_at w.blocks in
      elim i.3 [
        | inl z ↦ z
        | inr lt ↦ absurd (let lt' : p < length (parts_at w.blocks n) =
            subst (λ z. p < length (parts_at z.blocks n)) same lt in
            let e' : length (parts_at w.blocks n) ≡ 0 = ap length none in omega arith)
      ]

  module _ (heading : Heading) (form : FileForm) (count : ℕ) (x : Placed)
      (i : InData set core.file sect block part k good heading form count core.position x) where
    -- the number of the expected block
    abbrev n : ℕ
    n = block + good_run (drop block i.seen)

    there : (p : ℕ) × (core.position ≡ Awaits sect n p)
    there = in_section n i.awaited

    at_n : block_of core.position ≡ n
    at_n = ap block_of there.1

    same_section : x.section ≡ w
    same_section = (wanted_at aim i.inside).same

    parts_here : before set core.file core.position
        ≡ section_parts (take (sect - 1) (unwrap_or (file_of set core.file) []))
        ++ delivered_after w 0 n there.0
    parts_here = ap (λ z. before set core.file z) there.1
        ∙ split_parts set core.file sect n there.0 w found

    answer : (item : TapeItem) (left : Option (List Portion))
        → Fits form (nat_lt count n) there.0 (delivered_after w count n there.0) item left
        → ((left ≡ None) ⊎ ((left ≡ Some (delivered_after w (count + 1) n there.0))
        ⊎ (nat_lt count n ≡ false)))
        → Agrees set core form count item
    answer item left fits next = record {
      sect = sect;
      number = n;
      part = there.0;
      section = w;
      at = there.1;
      found = found;
      parts = parts_here;
      left = left;
      fits = fits;
      next = next;
    }

    -- an unreadable item
    unread : (t : Bool) → nat_lt count n ≡ t → Agrees set core form count bad
    unread true h = answer bad None (rw h tt) (inl refl)
    unread false h = answer bad None (rw h tt) (inl refl)

    by_read : (e : Entry) → Agrees set core form count (item_of e) → (t : Bool)
        → Agrees set core form count (cond t (item_of e) bad)
    by_read e a true = a
    by_read e a false = unread (nat_lt count n) refl

    -- the next block of the section
    a_block : (d : Filled) (rest : List Filled) → i.blocks ≡ d ∷ rest
        → slice_get w.blocks count ≡ Some d → Contains form d.bytes d.parts → (t : Bool)
        → nat_lt count n ≡ t → Agrees set core form count (block' d.bytes)
    a_block d rest q at_d held true h =
        let lt : count < n = grind (arith, nat_tests) in
        answer (block' d.bytes) (Some (delivered_after w (count + 1) n there.0))
        (rw h (d.parts, held, one_more w count n there.0 d at_d lt)) (inr (inl refl))
    a_block d rest q at_d held false h =
        let full : n ≡ count =
        count_cases aim heading form count x i (ap (λ z. nat_lt count z) at_n ∙ h) in
        let its : parts_at w.blocks n ≡ d.parts =
        ap (λ z. parts_at w.blocks z) full ∙ ap parts_of at_d in
        let rest_is : delivered_after w count n there.0 ≡ take there.0 d.parts =
        ap (λ z. delivered_after w z n there.0) (sym full)
        ∙ (last_ones w n there.0 ∙ ap (λ z. take there.0 z) its) in
        answer (block' d.bytes) (Some []) (rw h (refl, (d.parts, held, rest_is)))
        (inr (inr h))

    pub held_there : (d : Filled) (rest : List Filled) → i.blocks ≡ d ∷ rest
        → (slice_get w.blocks count ≡ Some d) × Contains form d.bytes d.parts
    held_there d rest q =
        let split : i.past ++ d ∷ rest ≡ w.blocks =
        ap (λ z. i.past ++ z) (sym q) ∙ (i.split ∙ ap (λ z. z.blocks) same_section) in
        let at_d : slice_get w.blocks count ≡ Some d =
        subst (λ z. slice_get z count ≡ Some d) split (get_behind i.past rest d count i.numbered)
        in
        let tells : TellsForm form w = subst (λ z. TellsForm form z) same_section i.labels in
        let held : Holds form.format form.rec_len form.offset d.bytes d.parts =
        (every_rest _ i.past (d ∷ rest) (subst
        (λ z. AllByRecursion (λ b. Holds form.format form.rec_len form.offset b.bytes b.parts) z)
        (sym split) (blocks_held set core.file l sect w form found tells))).0 in
        let order : InOrder
        (begun_behind false (before set core.file (awaiting sect count))) d.parts
        (begun_behind false (before set core.file (awaiting sect (count + 1)))) =
        block_in_order set core.file sect w (its_file aim) l i.past rest d count split i.numbered in
        (at_d, own_order form d.bytes _ _ d.parts held order)

    -- the mark after the last block
    the_mark : i.blocks ≡ [] → (t : Bool) → nat_lt count n ≡ t → Agrees set core form count mark
    the_mark q true h = absurd (
        let a : block_of core.position ≡ n = at_n in
        let lt : count < n = grind (arith, nat_tests) in
        all_counted aim heading form count x i q (subst (λ z. count < z) (sym a) lt))
    the_mark q false h =
        let full : n ≡ count =
        count_cases aim heading form count x i (ap (λ z. nat_lt count z) at_n ∙ h) in
        let lengths : length i.past + length i.blocks ≡ length w.blocks =
        sym (length-append i.past i.blocks)
        ∙ (ap length i.split ∙ ap (λ z. length z.blocks) same_section) in
        let zero' : length i.blocks ≡ 0 = ap length q in
        let all : n ≡ length w.blocks = omega (arith, lengths, zero', full, i.numbered) in
        let none : there.0 ≡ 0 = no_part n there.0 there.1 all in
        let rest_is : delivered_after w count n there.0 ≡ [] =
        ap (λ z. delivered_after w z n there.0) (sym full)
        ∙ (last_ones w n there.0 ∙ ap (λ z. take z (parts_at w.blocks n)) none) in
        answer mark None (rw h (none, rest_is)) (inl refl)

    agrees_on : (g : Bool) (e : Entry) → slice_get (entries set k) (length good) ≡ Some e
        → (blocks : List Filled) → i.blocks ≡ blocks
        → Agrees set core form count (cond g (item_of e) bad)
    agrees_on g e s [] q =
        let is : a_mark ≡ e = first_left set k good e a_mark _ (subst (λ z. Left set k good
        ((data_group z ++ trailer_group x.section) ++ to_come i.inside.later)) q i.inside.left) s
        in
        by_read e (subst (λ z. Agrees set core form count (item_of z)) is
        (the_mark q (nat_lt count n) refl)) g
    agrees_on g e s (d ∷ rest) q =
        let is : a_data_block d.bytes ≡ e = first_left set k good e (a_data_block d.bytes) _
        (subst (λ z. Left set k good
        ((data_group z ++ trailer_group x.section) ++ to_come i.inside.later)) q i.inside.left) s
        in
        let h = held_there d rest q in
        by_read e (subst (λ z. Agrees set core form count (item_of z)) is
        (a_block d rest q h.0 h.1 (nat_lt count n) refl)) g

    agrees : (g : Bool) (e : Entry) → slice_get (entries set k) (length good) ≡ Some e
        → Agrees set core form count (cond g (item_of e) bad)
    agrees g e s = agrees_on g e s i.blocks refl

  -- the trailer of the section needed ends the section
  trailer_ends : (heading : Heading) (form : FileForm) (x : Placed)
      (i : AtTrailer set core.file sect block part k good heading form core.position x)
      → EndsSection (at_wanted_trailer core heading form (trail1_at x.section.trailer)).0
  trailer_ends heading form x i =
      let at_it = wanted_at aim i.inside in
      let t : Trail1 = (on_it aim x i.inside.later i.inside.among).lawful.trailer.0 in
      let tr : IsTrailer x t = (on_it aim x i.inside.later i.inside.among).lawful.trailer.1 in
      let at_end' : core.position ≡ awaiting sect (length w.blocks) =
      end_front aim (i.awaited
      ∙ ap (λ z. stopped (here aim) sect block (length z.blocks)) at_it.same) in
      let eof : ends_file w ≡ t.eof = ap ends_file (sym at_it.same)
      ∙ ends_as x.section t tr.label in
      let numbers : other_numbers heading t ≡ false =
      (let a : (t.head.sequence == heading.sequence) ≡ true =
      eq-eqb t.head.sequence heading.sequence (tr.file ∙ sym i.inside.numbers.0) in
      let b : (t.head.sect == heading.sect) ≡ true =
      eq-eqb t.head.sect heading.sect (tr.sect ∙ sym i.inside.numbers.1) in rw (a, b) refl) in
      let block_is : block_of core.position ≡ length w.blocks = ap block_of at_end' in
      let counted : (t.blocks == label_count (block_of core.position)) ≡ true =
      eq-eqb t.blocks (label_count (block_of core.position)) (tr.count
      ∙ (ap (λ z. label_count (length z.blocks)) at_it.same ∙ ap label_count (sym block_is))) in
      let s_is : sect_of core.position ≡ sect = ap sect_of at_end' in
      let begun : core.begun
      ≡ begun_behind false (before set core.file (awaiting sect (length w.blocks))) =
      at.stands.span ∙ ap (λ z. begun_behind false (before set core.file z)) at_end' in
      let ends = ends_at (its_file aim).sections (its_file aim).sect_at.place w
      (file_lawful set core.file sect w l (its_file aim)).ends (its_file aim).sect_at.found in
      let reads : trail1_at x.section.trailer ≡ Ok t = trail1_again x.section.trailer t tr.label in
      rw (reads, numbers, counted) (ended t.eof form at_end' begun s_is
      (λ e. elim ends [ inl a ↦ a.1 | inr b ↦ absurd (let q = sym b.0 ∙ (eof ∙ e) in cc) ])
      (λ e. elim ends [ inl a ↦ absurd (let q = sym a.0 ∙ (eof ∙ e) in cc) | inr b ↦ b.1 ]))
    where
      ended : (eof : Bool) (form : FileForm)
          → core.position ≡ awaiting sect (length w.blocks)
          → core.begun ≡ begun_behind false (before set core.file (awaiting sect (length w.blocks)))
          → sect_of core.position ≡ sect
          → (eof ≡ true → length (its_file aim).sections ≡ (its_file aim).sect_at.place + 1)
          → (eof ≡ false → (w' : Section)
          × (slice_get (its_file aim).sections ((its_file aim).sect_at.place + 1) ≡ Some w'))
          → EndsSection (at_end core form eof).0
      ended true form at_end' begun s_is last next =
          let closed : begun_behind false (before set core.file Finished) ≡ false =
          whole_begun set core.file sect w l (its_file aim) in
          let same : before set core.file Finished ≡ before set core.file (awaiting sect
          (length w.blocks)) = before_end set core.file sect w (its_file aim) (last refl) in
          let not_begun : core.begun ≡ false = begun
          ∙ (ap (λ z. begun_behind false z) (sym same) ∙ closed) in
          rw not_begun (inr refl)
      ended false form at_end' begun s_is last next =
          let found' : section_of set core.file (sect + 1) ≡ Some (next refl).0 =
          next_found set core.file sect w (its_file aim) (next refl).0 (next refl).1 in
          let limit : not (nat_lt (sect_of core.position) 9999) ≡ false =
          (let lt = few_sections set core.file (sect + 1) (next refl).0 l found' in
          let lt' : sect_of core.position < 9999 = omega (arith, lt, s_is) in
          grind (arith, nat_tests)) in
          rw limit (inl refl)

-- the item at an index is that of the entry there
entry_at : (xs : List Entry) (n : ℕ) (item : TapeItem) → slice_get (map item_of xs) n ≡ Some item
    → (e : Entry) × (slice_get xs n ≡ Some e) × (item_of e ≡ item)
entry_at [] n item h = absurd (cc)
entry_at (x ∷ xs) zero item h = (x, refl, cc)
entry_at (x ∷ xs) (suc n) item h = entry_at xs n item h

pub copies_agree : (set : FileSet) (p : Position) (k : ℕ) (good : List Bool) (g : Bool)
    (item : TapeItem) (core : State) (heading : Heading) (form : FileForm) (count : ℕ)
    → IsLawful set → IsSome (nth set.volumes k)
    → slice_get (items set k) (length good) ≡ Some item → IsReading set p k good core
    → core.position ≢ Finished → core.phase ≡ DataWanted heading form count
    → Agrees set core form count (cond g item bad)
copies_agree set p k good g item core heading form count l vol s r waits in_data =
    volume (nth set.volumes k) refl vol
  where
    from : (v : Volume) → nth set.volumes k ≡ Some v → (q : Position)
        → IsReading set q k good core → Agrees set core form count (cond g item bad)
    from v found Finished r' = absurd (waits r'.follows)
    from v found (Awaits sect block part) r' =
        let f : FollowsFrom set core.file (Awaits sect block part) k good
        (DataWanted heading form count) core.position = subst (λ z. FollowsFrom set core.file
        (Awaits sect block part) k good z core.position) in_data r'.follows in
        let e = entry_at (entries set k) (length good) item s in
        subst (λ z. Agrees set core form count (cond g z bad)) e.2
        (agrees (aim_of set l core sect block part k v found good r') heading form count f.0 f.1 g
        e.0 e.1)

    volume : (o : Option Volume) → nth set.volumes k ≡ o → IsSome o
        → Agrees set core form count (cond g item bad)
    volume None q h = absurd (cc)
    volume (Some v) q h = from v q p r

-- blocks that fit are those whose parts were delivered
pub certifies : (form : FileForm) (delivered left : List Portion) (texts : List (List ℕ))
    → FitAll form delivered texts left → Certified form delivered texts left
certifies form delivered left [] h = record {
  blocks = [];
  texts_are = refl;
  each = tt;
  parts = sym h;
}
certifies form delivered left (b ∷ bs) (mid, (parts, holds, is), rest) =
    let c = certifies form mid left bs rest in
    record {
      blocks = record { bytes = b; parts = parts } ∷ c.blocks;
      texts_are = ap (λ z. b ∷ z) c.texts_are;
      each = (holds, c.each);
      parts = is ∙ (ap (λ z. parts ++ z) c.parts
          ∙ sym (append_assoc parts (parts_of_all c.blocks) left));
    }

-- after the data of a section, a readable item ends the section
pub trailers_end : (set : FileSet) (p : Position) (k : ℕ) (good : List Bool) (item : TapeItem)
    (core : State) (heading : Heading) (form : FileForm) → IsLawful set → IsSome (nth set.volumes k)
    → slice_get (items set k) (length good) ≡ Some item → IsReading set p k good core
    → core.position ≢ Finished → core.phase ≡ TrailerWanted heading form
    → EndsSection (step_of core (Some item)).0
trailers_end set p k good item core heading form l vol s r waits at_trailer =
    volume (nth set.volumes k) refl vol
  where
    stepped : (q : Position) → q ≢ Finished → (out : Outcome) → EndsSection out.0
        → EndsSection (unless_complete core q out).0
    stepped Finished none out a = absurd (none refl)
    stepped (Awaits sect b part) none out a = a

    from : (v : Volume) → nth set.volumes k ≡ Some v → (q : Position)
        → IsReading set q k good core → EndsSection (step_of core (Some item)).0
    from v found Finished r' = absurd (waits r'.follows)
    from v found (Awaits sect block part) r' =
        let f : FollowsFrom set core.file (Awaits sect block part) k good
        (TrailerWanted heading form) core.position = subst (λ z. FollowsFrom set core.file
        (Awaits sect block part) k good z core.position) at_trailer r'.follows in
        let aim : Aim = aim_of set l core sect block part k v found good r' in
        let e = entry_at (entries set k) (length good) item s in
        let is : a_label f.0.section.trailer ≡ e.0 = first_left set k good e.0
        (a_label f.0.section.trailer) _ f.1.inside.left e.1 in
        let same : block' f.0.section.trailer ≡ item = ap item_of is ∙ e.2 in
        stepped core.position waits (at_item core core.phase item)
        (subst (λ z. EndsSection (at_item core z item).0) (sym at_trailer)
        (subst (λ z. EndsSection (at_item core (TrailerWanted heading form) z).0) same
        (trailer_ends aim heading form f.0 f.1)))

    volume : (o : Option Volume) → nth set.volumes k ≡ o → IsSome o
        → EndsSection (step_of core (Some item)).0
    volume None q h = absurd (cc)
    volume (Some v) q h = from v q p r
