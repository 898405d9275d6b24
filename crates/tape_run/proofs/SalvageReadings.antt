-- A reading in which only data blocks were unreadable, as labels and sections that were read.
use Rattle.std.proofs.Common.{◌≡◌, ◌<◌, ℕ, ◌==◌, ◌&&◌, ◌||◌, Bool, true, false, List, [], ◌∷◌, ◌++◌}
use Rattle.std.proofs.Common.{length, map, Option, Some, refl, sym, ap, subst, ◌∙◌, arith}
use Rattle.std.proofs.{Common.append_assoc, Common.if◌then◌else◌, lemmas.Bool.Decides.nat_tests}
use Rattle.std.proofs.lemmas.Bool.{and_parts}
use Rattle.std.specs.{List.AllByRecursion, Str.bytes_eq}
use Rattle.tape_image.specs.Tape.{TapeItem, block, bad, mark}
use Rattle.tape_blocks.specs.Tight.{Filled}
use Rattle.tape_set.specs.Layout.{FileSet, Volume, Placed, Entry, a_label, a_mark, item_of, is_data}
use Rattle.tape_set.specs.Layout.{items, entries, entries_on, nth, on, sections, section_entries}
use Rattle.tape_set.specs.Layout.{all_entries, header_group, data_group, trailer_group}
use Rattle.tape_set.specs.{Layout.volume_group, Lawful.IsLawful, Lawful.IsVolume, Lawful.IsSection}
use Rattle.tape_set.specs.{Reading.as_read, Reach.passes}
use Rattle.tape_set.proofs.Everywhere.{every_at, nth_found}
use Rattle.tape_set.proofs.Volumes.{IsOn, Rising, sections_on_are, sections_on_rise}
use Rattle.tape_run.specs.SalvageSections.{SectionRead, IsRead, Labels, labels_of, read_labels}
use Rattle.tape_run.specs.SalvageSections.{read_blocks, filled_of, read_section, read_sections}
use Rattle.tape_run.specs.SalvageWhole.{Blocks}
use Rattle.tape_run.specs.SalvageSections.{read_volume, NoneBegins, IsOther, IsReadTo, key_of}
use Rattle.tape_run.specs.SalvageReadings.{IsReadVolume, RecoversReading}
use Rattle.tape_run.proofs.{SalvageOpened.AllRead, SalvageSteps.AreHeads, StayingGood.key_again}
use Rattle.tape_run.proofs.{SalvageClosings.recovers_from_reading, WholeVolumes.some_of}

-- ---- entries as they were read

-- the items of entries, as they were read
abbrev read_as : List Bool → List Entry → List TapeItem
read_as gs es = as_read (map item_of es) gs

-- entries in two parts
record InTwo (gs : List Bool) (es fs : List Entry) : Type 0 where
  first : passes gs es ≡ true
  more : List Bool
  second : passes more fs ≡ true
  is : read_as gs (es ++ fs) ≡ read_as gs es ++ read_as more fs

in_two : (gs : List Bool) (es fs : List Entry) → passes gs (es ++ fs) ≡ true → InTwo gs es fs
in_two gs [] fs h = record { first = refl; more = gs; second = h; is = none gs }
  where
    none : (gs : List Bool) → read_as gs fs ≡ as_read [] gs ++ read_as gs fs
    none [] = refl
    none (g ∷ gs) = refl
in_two [] (e ∷ es) fs h = absurd (cc h)
in_two (g ∷ gs) (e ∷ es) fs h =
    let one = (and_parts (g || is_data e) (passes gs (es ++ fs)) h).0 in
    let r = in_two gs es fs ((and_parts (g || is_data e) (passes gs (es ++ fs)) h).1) in
    record {
      first = ap (λ b. b && passes gs es) one ∙ r.first;
      more = r.more;
      second = r.second;
      is = ap (λ (l : List TapeItem). (if g then item_of e else bad) ∷ l) r.is;
    }

read_well : (g : Bool) → (g || false) ≡ true → g ≡ true
read_well true e = refl
read_well false e = absurd (cc e)

-- labels that were all read
abbrev good_labels : List (List ℕ) → Labels
good_labels [] = []
good_labels (b ∷ bs) = (true, b) ∷ good_labels bs

same_labels : (bs : List (List ℕ)) → labels_of (good_labels bs) ≡ bs
same_labels [] = refl
same_labels (b ∷ bs) = ap (λ (l : List (List ℕ)). b ∷ l) (same_labels bs)

none_begins : (bs : List (List ℕ)) → NoneBegins (good_labels bs)
none_begins [] = tt
none_begins (b ∷ bs) = none_begins bs

all_read : (bs : List (List ℕ)) → AllRead (good_labels bs)
all_read [] = tt
all_read (b ∷ bs) = all_read bs

labels_read : (gs : List Bool) (bs : List (List ℕ)) → passes gs (map a_label bs) ≡ true
    → read_as gs (map a_label bs) ≡ read_labels (good_labels bs)
labels_read [] [] h = refl
labels_read (g ∷ gs) [] h = refl
labels_read [] (b ∷ bs) h = absurd (cc h)
labels_read (g ∷ gs) (b ∷ bs) h =
    let one = read_well g ((and_parts (g || false) (passes gs (map a_label bs)) h).0) in
    let rest = labels_read gs bs ((and_parts (g || false) (passes gs (map a_label bs)) h).1) in
    ap (λ (c : Bool). (if c then block b else bad) ∷ read_as gs (map a_label bs)) one
    ∙ ap (λ (l : List TapeItem). block b ∷ l) rest

mark_read : (gs : List Bool) → passes gs (a_mark ∷ []) ≡ true → read_as gs (a_mark ∷ []) ≡ mark ∷ []
mark_read [] h = absurd (cc h)
mark_read (g ∷ gs) h =
    let one = read_well g ((and_parts (g || false) true h).0) in
    ap (λ (c : Bool). (if c then mark else bad) ∷ as_read [] gs) one
    ∙ ap (λ (l : List TapeItem). mark ∷ l) (none gs)
  where
    none : (gs : List Bool) → as_read [] gs ≡ []
    none [] = refl
    none (g ∷ gs) = refl

-- the blocks of a section, each with whether it was read
abbrev blocks_with : List Bool → List Filled → Blocks
blocks_with gs [] = []
blocks_with [] (f ∷ fs) = []
blocks_with (g ∷ gs) (f ∷ fs) = (g, f) ∷ blocks_with gs fs

blocks_read : (gs : List Bool) (fs : List Filled) → passes gs (data_group fs) ≡ true
    → (read_as gs (data_group fs) ≡ read_blocks (blocks_with gs fs))
    × (filled_of (blocks_with gs fs) ≡ fs)
blocks_read [] [] h = (refl, refl)
blocks_read (g ∷ gs) [] h = (refl, refl)
blocks_read [] (f ∷ fs) h = absurd (cc h)
blocks_read (g ∷ gs) (f ∷ fs) h =
    let r = blocks_read gs fs ((and_parts (g || true) (passes gs (data_group fs)) h).1) in (
      ap (λ (l : List TapeItem). (if g then block f.bytes else bad) ∷ l) r.0,
      ap (λ (l : List Filled). f ∷ l) r.1,
    )

-- ---- a section

record ReadSection (p : Placed) (gs : List Bool) : Type 0 where
  read : SectionRead
  placed : read.placed ≡ p
  headers : labels_of read.headers ≡ p.section.hdr2 ∷ p.section.headers
  blocks : filled_of read.blocks ≡ p.section.blocks
  trailers : labels_of read.trailers ≡ p.section.trailers
  none : NoneBegins read.trailers
  first : AreHeads read.headers
  is : read_as gs (section_entries p.section) ≡ read_section read

section_read : (p : Placed) (gs : List Bool) → passes gs (section_entries p.section) ≡ true
    → ReadSection p gs
section_read p gs h =
    let s = p.section in
    let heads = map a_label (s.hdr1 ∷ s.hdr2 ∷ s.headers) in
    let tails = map a_label (s.trailer ∷ s.trailers) in
    let a = in_two gs (header_group s ++ data_group s.blocks) (trailer_group s) h in
    let c = in_two gs (header_group s) (data_group s.blocks) a.first in
    let b = in_two gs heads (a_mark ∷ []) c.first in
    let d = in_two a.more (a_mark ∷ []) (tails ++ (a_mark ∷ [])) a.second in
    let e = in_two d.more tails (a_mark ∷ []) d.second in
    let fs = blocks_read c.more s.blocks c.second in
    let r : SectionRead = record {
      placed = p;
      headers = good_labels (s.hdr2 ∷ s.headers);
      blocks = blocks_with c.more s.blocks;
      trailers = good_labels s.trailers;
    } in
    let top = read_labels (good_labels (s.hdr1 ∷ s.hdr2 ∷ s.headers)) in
    let end = read_labels (good_labels (s.trailer ∷ s.trailers)) in
    let data_items = read_blocks r.blocks in
    let headers_are : read_as gs (header_group s) ≡ top ++ (mark ∷ []) =
    b.is ∙ ap (λ (l : List TapeItem). l ++ read_as b.more (a_mark ∷ []))
    (labels_read gs (s.hdr1 ∷ s.hdr2 ∷ s.headers) b.first)
    ∙ ap (λ (l : List TapeItem). top ++ l) (mark_read b.more b.second) in
    let trailers_are : read_as a.more (trailer_group s) ≡ (mark ∷ []) ++ (end ++ (mark ∷ [])) =
    d.is ∙ ap (λ (l : List TapeItem). l ++ read_as d.more (tails ++ (a_mark ∷ [])))
    (mark_read a.more d.first)
    ∙ ap (λ (l : List TapeItem). (mark ∷ []) ++ l)
    (e.is ∙ ap (λ (l : List TapeItem). l ++ read_as e.more (a_mark ∷ []))
    (labels_read d.more (s.trailer ∷ s.trailers) e.first)
    ∙ ap (λ (l : List TapeItem). end ++ l) (mark_read e.more e.second)) in
    record {
      read = r;
      placed = refl;
      headers = same_labels (s.hdr2 ∷ s.headers);
      blocks = fs.1;
      trailers = same_labels s.trailers;
      none = none_begins s.trailers;
      first = (tt, all_read s.headers);
      is = a.is
          ∙ ap (λ (l : List TapeItem). l ++ read_as a.more (trailer_group s))
          (c.is ∙ ap (λ (l : List TapeItem). l ++ read_as c.more (data_group s.blocks)) headers_are
          ∙ ap (λ (l : List TapeItem). (top ++ (mark ∷ [])) ++ l) fs.0)
          ∙ ap (λ (l : List TapeItem). ((top ++ (mark ∷ [])) ++ data_items) ++ l) trailers_are
          ∙ append_assoc (top ++ (mark ∷ [])) data_items ((mark ∷ []) ++ (end ++ (mark ∷ [])))
          ∙ append_assoc top (mark ∷ []) (data_items ++ ((mark ∷ []) ++ (end ++ (mark ∷ []))));
    }

record ReadSections (set : FileSet) (ps : List Placed) (gs : List Bool) : Type 0 where
  reads : List SectionRead
  all : map (λ (r : SectionRead). r.placed) reads ≡ ps
  are_read : AllByRecursion (IsRead set.set_id (length set.volumes)) reads
  firsts : AllByRecursion (λ (r : SectionRead). AreHeads r.headers) reads
  is : read_as gs (all_entries ps) ≡ read_sections reads

sections_read : (set : FileSet) (k : ℕ) (ps : List Placed) (gs : List Bool)
    → AllByRecursion (IsOn set k) ps → passes gs (all_entries ps) ≡ true → ReadSections set ps gs
sections_read set k [] gs all h =
    record { reads = []; all = refl; are_read = tt; firsts = tt; is = none gs }
  where
    none : (gs : List Bool) → as_read [] gs ≡ []
    none [] = refl
    none (g ∷ gs) = refl
sections_read set k (p ∷ ps) gs (here, all) h =
    let a = in_two gs (section_entries p.section) (all_entries ps) h in
    let one = section_read p gs a.first in
    let rest = sections_read set k ps a.more all a.second in
    let s = one.read in
    let back = sym one.placed in
    record {
      reads = s ∷ rest.reads;
      all = ap (λ (q : Placed). q ∷ map (λ (r : SectionRead). r.placed) rest.reads) one.placed
          ∙ ap (λ (l : List Placed). p ∷ l) rest.all;
      are_read = (
        record {
          is = subst (IsSection set.set_id (length set.volumes)) back here.lawful;
          headers = subst (λ (q : Placed). labels_of s.headers
              ≡ q.section.hdr2 ∷ q.section.headers) back one.headers;
          blocks = subst (λ (q : Placed). filled_of s.blocks ≡ q.section.blocks) back one.blocks;
          trailers = subst (λ (q : Placed). labels_of s.trailers ≡ q.section.trailers) back
              one.trailers;
          none = one.none;
        },
        rest.are_read,
      );
      firsts = (one.first, rest.firsts);
      is = a.is ∙ ap (λ (l : List TapeItem). l ++ read_as a.more (all_entries ps)) one.is
          ∙ ap (λ (l : List TapeItem). read_section s ++ l) rest.is;
    }

-- ---- a volume

-- a volume whose second labels were read
pub record ReadVolume (set : FileSet) (k : ℕ) (xs : List TapeItem) : Type 0 where
  pub volume : IsReadVolume set k xs
  pub firsts : AllByRecursion (λ (r : SectionRead). AreHeads r.headers) volume.reads

pub volume_read : (set : FileSet) (k : ℕ) (v : Volume) (gs : List Bool) → IsLawful set
    → nth set.volumes k ≡ Some v → passes gs (entries set k) ≡ true
    → ReadVolume set k (as_read (items set k) gs)
volume_read set k v gs l there h =
    let ps = on k (sections set) in
    let at = nth_found set.volumes k v there in
    let es : entries set k ≡ (volume_group v ++ all_entries ps) ++ (a_mark ∷ []) =
    ap (λ (o : Option Volume). entries_on o k (sections set)) there in
    let b = in_two gs (volume_group v ++ all_entries ps) (a_mark ∷ [])
    (ap (passes gs) (sym es) ∙ h) in
    let a = in_two gs (volume_group v) (all_entries ps) b.first in
    let rs = sections_read set k ps a.more (sections_on_are set k l) a.second in
    let labels = good_labels (v.vol1 ∷ v.labels) in
    record {
      volume = record {
        volume = v;
        labels = labels;
        reads = rs.reads;
        there = there;
        is_volume = every_at IsVolume set.volumes at.place v l.volumes at.found;
        are_labels = same_labels (v.vol1 ∷ v.labels);
        are_read = rs.are_read;
        all = rs.all;
        is = ap (read_as gs) es ∙ b.is
            ∙ ap (λ (l : List TapeItem). l ++ read_as b.more (a_mark ∷ []))
            (a.is ∙ ap (λ (l : List TapeItem). l ++ read_as a.more (all_entries ps))
            (labels_read gs (v.vol1 ∷ v.labels) a.first)
            ∙ ap (λ (l : List TapeItem). read_labels labels ++ l) rs.is)
            ∙ ap (λ (l : List TapeItem). (read_labels labels ++ read_sections rs.reads) ++ l)
            (mark_read b.more b.second)
            ∙ append_assoc (read_labels labels) (read_sections rs.reads) (mark ∷ []);
      };
      firsts = rs.firsts;
    }

-- ---- the other sections on the volume

false_last : (a b c : Bool) → b ≡ false → (a && (b && c)) ≡ false
false_last true b c e = ap (λ d. d && c) e
false_last false b c e = refl

other_file : (set_id : List ℕ) (s t : SectionRead)
    → (s.placed.file == t.placed.file) ≡ false → IsOther set_id (key_of set_id t) s
other_file set_id s t e = false_last (bytes_eq set_id set_id) _ (s.placed.sect == t.placed.sect) e

abbrev pub placed_of : List SectionRead → List Placed
placed_of rs = map (λ (r : SectionRead). r.placed) rs

later_others : (set_id : List ℕ) (s : SectionRead) (rs : List SectionRead)
    → AllByRecursion (λ y. s.placed.file < y.file) (placed_of rs)
    → AllByRecursion (IsOther set_id (key_of set_id s)) rs
later_others set_id s [] all = tt
later_others set_id s (r ∷ rs) (lt, all) =
    let off : (r.placed.file == s.placed.file) ≡ false = grind (arith, nat_tests) in
    (other_file set_id r s off, later_others set_id s rs all)

pub record Others (set_id : List ℕ) (s : SectionRead) (before rest : List SectionRead) : Type 0
  where
    pub first : AllByRecursion (IsOther set_id (key_of set_id s)) before
    pub last : AllByRecursion (IsOther set_id (key_of set_id s)) rest

pub others : (set_id : List ℕ) (s : SectionRead) (before rest : List SectionRead)
    → Rising (placed_of (before ++ s ∷ rest)) → Others set_id s before rest
others set_id s [] rest (all, rise) = record { first = tt; last = later_others set_id s rest all }
others set_id s (r ∷ before) rest (all, rise) =
    let h = others set_id s before rest rise in
    let lt = later before all in
    let off : (r.placed.file == s.placed.file) ≡ false = grind (arith, nat_tests) in
    record { first = (other_file set_id r s off, h.first); last = h.last }
  where
    later : (xs : List SectionRead)
        → AllByRecursion (λ y. r.placed.file < y.file) (placed_of (xs ++ s ∷ rest))
        → r.placed.file < s.placed.file
    later [] all = all.0
    later (x ∷ xs) all = later xs all.1

pub all_in_two : {A : Type 0} (P : A → Type 0) (xs : List A) (y : A) (zs : List A)
    → AllByRecursion P (xs ++ y ∷ zs) → AllByRecursion P xs × (P y × AllByRecursion P zs)
all_in_two P [] y zs (h, all) = (tt, (h, all))
all_in_two P (x ∷ xs) y zs (h, all) = let r = all_in_two P xs y zs all in ((h, r.0), r.1)

pub recovers_reading : RecoversReading
recovers_reading set r l reading h =
    let k = r.volume in
    let (v, there) = some_of (nth set.volumes k) reading.volume in
    let w = (volume_read set k v r.good l there h).volume in (
      w,
      λ before rest s form g read splits how.
          let rise : Rising (placed_of (before ++ s ∷ rest)) =
          subst (λ (rs : List SectionRead). Rising (placed_of rs)) splits
          (subst Rising (sym w.all) (sections_on_rise set k l)) in
          let o = others set.set_id s before rest rise in
          let all = all_in_two (IsRead set.set_id (length set.volumes)) before s rest
          (subst (AllByRecursion (IsRead set.set_id (length set.volumes))) splits w.are_read) in
          recovers_from_reading set.set_id (length set.volumes) w.volume w.labels before s rest form
          (key_of set.set_id s) g read w.is_volume w.are_labels all.0 o.first all.1.1 o.last all.1.0
          (key_again (key_of set.set_id s))
          (subst (λ (xs : List TapeItem). IsReadTo (key_of set.set_id s) xs read)
          (w.is ∙ ap (read_volume w.labels) splits) how),
    )
