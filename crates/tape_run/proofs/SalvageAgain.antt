-- One section of a file of a valid set, recovered from complete readings of its volume.
use Rattle.std.proofs.Common.{◌≡◌, ◌<◌, ℕ, ◌==◌, ◌&&◌, Bool, true, false, List, [], ◌∷◌, ◌++◌}
use Rattle.std.proofs.Common.{length, Option, Some, None, refl, sym, ap, subst, ◌∙◌, arith, suc}
use Rattle.std.proofs.Common.{zero, inl, inr, if◌then◌else◌, slice_get, not}
use Rattle.std.proofs.lemmas.Bool.Decides.{nat_tests}
use Rattle.std.specs.List.{AllByRecursion}
use Rattle.tape_image.specs.Tape.{TapeItem}
use Rattle.tape_blocks.specs.Tight.{Filled}
use Rattle.tape_set.specs.Layout.{FileSet, Section, Placed, section_of, ends_file}
use Rattle.tape_set.specs.Lawful.{IsLawful, FileForm, HasForm, TellsForm}
use Rattle.tape_set.specs.{Laws.StandsIn, Reading.Reading}
use Rattle.tape_set.proofs.{Everywhere.every, Everywhere.every_stands, Numbering.placed}
use Rattle.tape_set.proofs.Volumes.{Rising, sections_on_rise}
use Rattle.tape_run.specs.declared.salvage.ending.SectionEnd.TheVariants.{FileEnds, Continues}
use Rattle.tape_run.specs.SalvageTaking.{Taken, after_taken, end_of_taken, form_for, has_form}
use Rattle.tape_run.specs.SalvageSections.{SectionRead, IsRead, IsOther, filled_of, key_of}
use Rattle.tape_run.specs.SalvageSets.{items_read, IsCompleteOr, copies_on, HasVolume, IsReadAgain}
use Rattle.tape_run.specs.{declared.salvage.ending.SectionEnd.TheVariants.Unknown, Noted.same_key}
use Rattle.tape_run.specs.{SalvageTaking.end_by, SalvageSets.IsHad, SalvageSets.IsRanked}
use Rattle.tape_run.specs.{SalvageSections.read_volume, SalvageRecords.Piece, SalvageRecords.torn}
use Rattle.tape_run.specs.{SalvageCopies.start_of, SalvageFile.closed_copy, SalvageFile.IsTakenFrom}
use Rattle.tape_run.specs.{SalvageBlocks.Salvaged, declared.salvage.copies.SectionCopy.SectionCopy}
use Rattle.tape_run.specs.{SalvageEnds.without_rest, SalvageWhole.Blocks, SalvageWhole.piece_after}
use Rattle.tape_run.specs.{SalvageImage.EndsData, declared.salvage.Content.TheVariants.Records}
use Rattle.tape_run.specs.declared.salvage.walk.Closing.{Closing}
use Rattle.tape_run.specs.declared.section.SectionKey.{SectionKey}
use Rattle.tape_run.specs.SalvageChoice.{firsts, is_considered, is_on, IsBest, form_of_file}
use Rattle.tape_run.proofs.SalvageReadings.{all_in_two, others, placed_of}
use Rattle.tape_run.proofs.{SalvageFile.AreRead, SalvageFile.taken_adds, StayingGood.key_again}
use Rattle.tape_run.proofs.SalvageGood.{IsGood, copies_good, has_copy, good_placed, good_sect}

-- ---- the copies that are considered

-- a copy of this section
abbrev pub IsOne : (SectionCopy → Type 0) → ℕ → SectionCopy → Type 0
IsOne P sect c = P c × ((c.section.key.sect == sect) ≡ true)

pub firsts_all : (P : SectionCopy → Type 0) (sect : ℕ) (last : Option ℕ) (cs : List SectionCopy)
    → AllByRecursion P cs → AllByRecursion (IsOne P sect) (firsts sect last cs)
firsts_all P sect last [] all = tt
firsts_all P sect last (c ∷ cs) (h, all) =
    by (firsts_all P sect (Some c.image) cs all) (firsts_all P sect last cs all)
    (c.section.key.sect == sect) refl (is_considered sect last c) refl
  where
    by : AllByRecursion (IsOne P sect) (firsts sect (Some c.image) cs)
        → AllByRecursion (IsOne P sect) (firsts sect last cs) → (a : Bool)
        → (c.section.key.sect == sect) ≡ a → (b : Bool) → is_considered sect last c ≡ b
        → AllByRecursion (IsOne P sect)
        (if b then c ∷ firsts sect (Some c.image) cs else firsts sect last cs)
    by taken passed true e true f = ((h, e), taken)
    by taken passed false e true f =
        absurd (cc (sym (ap (λ (x : Bool). x && not (is_on c.image last)) e) ∙ f))
    by taken passed a e false f = passed

none_first : (sect : ℕ) (front : List SectionCopy) (c : SectionCopy) (rest : List SectionCopy)
    → c.section.key.sect ≡ sect → firsts sect None (front ++ c ∷ rest) ≡ [] → ⊥
none_first sect [] c rest number e =
    let same : (c.section.key.sect == sect) ≡ true = grind (arith, nat_tests, number) in
    by (c.section.key.sect == sect) same e
  where
    by : (b : Bool) → b ≡ true
        → (if b && true then c ∷ firsts sect (Some c.image) rest else firsts sect None rest) ≡ []
        → ⊥
    by true f e = cc e
    by false f e = cc f
none_first sect (x ∷ front) c rest number e =
    by (none_first sect front c rest number) (is_considered sect None x) e
  where
    by : (firsts sect None (front ++ c ∷ rest) ≡ [] → ⊥) → (b : Bool)
        → (if b then x ∷ firsts sect (Some x.image) (front ++ c ∷ rest)
        else firsts sect None (front ++ c ∷ rest)) ≡ [] → ⊥
    by later true e = cc e
    by later false e = later e

pub get_less : {A : Type 0} (xs : List A) (n : ℕ) (x : A) → slice_get xs n ≡ Some x → n < length xs
get_less [] n x e = absurd (cc e)
get_less (y ∷ xs) zero x e = omega arith
get_less (y ∷ xs) (suc n) x e = let r = get_less xs n x e in omega (arith, r)

-- ---- a section that is on no image

unfoldable pub lost : List Filled → Blocks
lost [] = []
lost (f ∷ fs) = (false, f) ∷ lost fs

pub filled_lost : (fs : List Filled) → filled_of (lost fs) ≡ fs
unfolding lost
filled_lost [] = refl
filled_lost (f ∷ fs) = ap (λ (l : List Filled). f ∷ l) (filled_lost fs)

pub none_read : (fs : List Filled) → AllByRecursion (λ b. b.0 ≡ false) (lost fs)
unfolding lost
none_read [] = tt
none_read (f ∷ fs) = (refl, none_read fs)

still_torn : (form : FileForm) (p : Piece) (fs : List Filled)
    → piece_after form (torn p) (lost fs) ≡ torn p
unfolding lost
still_torn form p [] = refl
still_torn form p (f ∷ fs) = still_torn form p fs

lost_piece : (form : FileForm) (p : Piece) (fs : List Filled) → (fs ≡ [] → ⊥)
    → torn p ≡ piece_after form p (lost fs)
unfolding lost
lost_piece form p [] some = absurd (some refl)
lost_piece form p (f ∷ fs) some = sym (still_torn form p fs)

pub lost_done : (form : FileForm) (p : Piece) (fs : List Filled)
    → (piece_after form p (lost fs)).done ≡ p.done
unfolding lost
lost_done form p [] = refl
lost_done form p (f ∷ fs) = ap (λ (q : Piece). q.done) (still_torn form p fs)

-- ---- one section

module _ (set : FileSet) (file : ℕ) (all : List (Option Reading)) (copies : List SectionCopy)
    (form : FileForm) (l : IsLawful set) (complete : AllByRecursion (IsCompleteOr set) all)
    (same : copies ≡ copies_on set file 0 all) where
  abbrev pub known : Option FileForm
  known = form_of_file copies

  pub copies_are : AllByRecursion (IsGood set file all) copies
  copies_are = subst (AllByRecursion (IsGood set file all)) (sym same)
      (copies_good set file all l complete)

  -- the copies have the ranks of what the images have
  pub ranked_are : AllByRecursion (IsRanked set all) copies
  ranked_are = every (IsGood set file all) (IsRanked set all) (λ c g. record {
    reading = g.reading;
    image = g.image;
    placed = g.section.placed;
    sect = good_sect set file all c g;
    blocks = g.section.blocks;
    had = record {
      volume = g.volume;
      section = g.section;
      among = (g.before, g.rest, g.is);
      is = refl;
      blocks = refl;
    };
    rank_is = g.rank_is;
  }) copies copies_are

  -- section i of the file
  abbrev pub IsAt : ℕ → Section → Type 0
  IsAt i w = section_of set file i ≡ Some w

  -- a copy of it that is considered
  record Best (i : ℕ) (c : SectionCopy) : Type 0 where
    good : IsGood set file all c
    number : c.section.key.sect ≡ i

  best_is : (i : ℕ) (c : SectionCopy) → IsBest (firsts i None copies) (Some c) → Best i c
  best_is i c (front, rest, is, less, most) =
      let P : SectionCopy → Type 0 = IsGood set file all in
      let h = every_stands (IsOne P i) (firsts i None copies) c
      (firsts_all P i None copies copies_are) (front, rest, is) in
      let e = h.1 in
      record { good = h.0; number = grind (arith, nat_tests, e) }

  pub not_there : (i : ℕ) (w : Section) → IsAt i w → firsts i None copies ≡ []
      → HasVolume all w.volume → ⊥
  not_there i w at none has =
      let h = has_copy set file i w l at all complete has in
      let among = subst (λ cs. StandsIn cs h.copy) (sym same) h.among in
      none_first i among.0 h.copy among.1 h.number
      (ap (firsts i None) (sym among.2) ∙ none)

  -- what a section adds
  pub record Step (i : ℕ) (w : Section) (g h : Salvaged) : Type 0 where
    pub blocks : Blocks
    pub had : IsHad set all copies (placed file i w) blocks
    pub done : h.piece.done ≡ (piece_after form g.piece blocks).done
    pub none : h.missing ≡ false → (g.missing ≡ false) × AreRead blocks

  taken_from : (t : Taken) (i : ℕ) (w : Section) (c : SectionCopy) → t.copy ≡ Some c
      → (b : Best i c) → IsReadAgain set all c t.items → IsAt i w → HasForm form w
      → IsTakenFrom set.set_id (length set.volumes) known form b.good.closing.eof t b.good.section
  taken_from t i w c is b a at has =
      let g = b.good in
      let s = g.section in
      let v = g.volume in
      let u = g.found in
      let k = g.closing in
      let Read = IsRead set.set_id (length set.volumes) in
      let p = good_placed set file i all w c l g b.number at in
      let parts = all_in_two Read g.before s g.rest (subst (AllByRecursion Read) g.is v.are_read) in
      let rise = subst Rising (ap placed_of g.is) (subst Rising (sym v.all)
      (sections_on_rise set g.reading.volume l)) in
      let o = others set.set_id s g.before g.rest rise in
      let own = λ (rs : List SectionRead) (x : AllByRecursion (IsOther set.set_id
      (key_of set.set_id s)) rs). subst (λ (key : SectionKey). AllByRecursion
      (IsOther set.set_id key) rs) (sym g.key) x in
      let one : a.reading ≡ g.reading = cc (sym a.image ∙ g.image) in
      record {
        image = c.image;
        section = u;
        count = k.count;
        named = k.named;
        items = a.read;
        is = ap (λ (x : Option SectionCopy). record { copy = x; items = t.items })
            (is ∙ ap (λ (x : SectionCopy). Some x) g.copy)
            ∙ ap (λ (y : Option (List TapeItem)). record {
              copy = Some (closed_copy c.image u k);
              items = y;
            }) a.is;
        own = ap (same_key (key_of set.set_id s)) g.key ∙ key_again (key_of set.set_id s);
        counted = g.blocks;
        forms = ap (λ (x : Option FileForm). form_for Records x known) (g.form form
            (subst (λ (x : Placed). TellsForm form x.section) (sym p) has.labels));
        volume = v.volume;
        labels = v.labels;
        before = g.before;
        rest = g.rest;
        is_volume = v.is_volume;
        are_labels = v.are_labels;
        are_before = parts.0;
        others_before = own g.before o.first;
        are_rest = parts.1.1;
        others_rest = own g.rest o.last;
        is_read = parts.1.0;
        unread = a.unread;
        splits = sym (v.is ∙ ap (read_volume v.labels) g.is)
            ∙ ap (items_read set) (sym one) ∙ a.splits;
        ends = subst (λ (z : SectionCopy). EndsData (start_of z) z.section.key a.read) g.copy
            a.ends;
      }

  -- a section that is on one of the images
  pub record Known (t : Taken) (i : ℕ) (w : Section) (g : Salvaged) : Type 0 where
    pub step : Step i w g (after_taken Records known t.copy t.items g)
    pub piece : ends_file w ≡ false → (after_taken Records known t.copy t.items g).piece
        ≡ piece_after form g.piece step.blocks
    pub ends : end_of_taken Records known t.copy t.items
        ≡ (if ends_file w then FileEnds else Continues)

  pub known_step : (t : Taken) (i : ℕ) (w : Section) (c : SectionCopy) (g : Salvaged)
      → t.copy ≡ Some c → IsBest (firsts i None copies) (Some c)
      → IsReadAgain set all c t.items → IsAt i w → HasForm form w → Known t i w g
  known_step t i w c g is best a at has =
      let b = best_is i c best in
      let x = b.good in
      let p = good_placed set file i all w c l x b.number at in
      let from = taken_from t i w c is b a at has in
      let adds = taken_adds set.set_id (length set.volumes) known form x.closing.eof t x.section g
      from in
      let eof : x.closing.eof ≡ ends_file w = x.eof ∙ ap (λ (q : Placed). ends_file q.section) p in
      let k : Closing = record {
        eof = x.closing.eof;
        count = from.count;
        named = from.named;
      } in
      let made = ap (λ (z : Taken). end_of_taken Records known z.copy z.items) from.is in
      record {
        step = record {
          blocks = x.section.blocks;
          had = inl (
            c,
            x.reading,
            best,
            x.image,
            record {
              volume = x.volume;
              section = x.section;
              among = (x.before, x.rest, x.is);
              is = p;
              blocks = refl;
            },
            x.rank_is,
          );
          done = adds.done;
          none = adds.none;
        };
        piece = λ e. adds.same (eof ∙ e);
        ends = made ∙ ap (λ (o : Option FileForm). if has_form Records o
            then end_by (Some k) else Unknown) from.forms
            ∙ ap (λ (e : Bool). if e then FileEnds else Continues) eof;
      }

  -- a section that is on none
  pub lost_step : (t : Taken) (i : ℕ) (w : Section) (g : Salvaged) → t.copy ≡ None
      → IsBest (firsts i None copies) None → IsAt i w → (w.blocks ≡ [] → HasVolume all w.volume)
      → (s : Step i w g (after_taken Records known t.copy t.items g))
      × ((after_taken Records known t.copy t.items g).piece
      ≡ piece_after form g.piece s.blocks)
  lost_step t i w g is best at empty =
      let h = after_taken Records known t.copy t.items g in
      let e : h ≡ without_rest g = ap (λ (c : Option SectionCopy). after_taken Records known c
      t.items g) is in
      let off = not_there i w at best in
      let piece : h.piece ≡ piece_after form g.piece (lost w.blocks) =
      ap (λ (z : Salvaged). z.piece) e
      ∙ lost_piece form g.piece w.blocks (λ none. absurd (off (empty none))) in (
        record {
          blocks = lost w.blocks;
          had = inr (record {
            none = off;
            blocks = filled_lost w.blocks;
            missing = none_read w.blocks;
          });
          done = ap (λ (q : Piece). q.done) piece;
          none = λ m. absurd (never (sym (ap (λ (z : Salvaged). z.missing) e) ∙ m));
        },
        piece,
      )
    where
      never : true ≡ false → ⊥
      never e = cc e
