-- The cases of `salvage`.
use Rattle.std.proofs.Common.{◌≡◌, ℕ, suc, zero, ◌+◌, Bool, true, false, List, [], ◌∷◌, ◌++◌}
use Rattle.std.proofs.Common.{length, Option, Some, None, refl, sym, ap, subst, ◌∙◌, arith, inl}
use Rattle.std.proofs.{Common.inr, Common.length-append, lemmas.Bool.Decides.nat_tests}
use Rattle.std.specs.Prelude.{◌==◌, ◌&&◌, ◌||◌, slice_get, get_or}
use Rattle.std.specs.Fmt.{digits}
use Rattle.tape_image.specs.Tape.{TapeItem, block, bad, mark}
use Rattle.tape_label.proofs.First.{head1_found, trail1_found}
use Rattle.tape_set.specs.{Layout.all_numbered, Reading.Reading, Reach.passes}
use Rattle.tape_run.specs.CasesOfSalvage.{CasesOfConflicts, CasesOfGaps, CasesOfClosed, CasesOfEnds}
use Rattle.tape_run.specs.CasesOfSalvage.{CasesOfDamaged, CasesOfSalvagedSets, CasesOfSalvage}
use Rattle.tape_run.specs.{declared.salvage.copies.SectionCopy.SectionCopy, SalvageChoice.IsBest}
use Rattle.tape_run.specs.{SalvageCopies.rank, SalvageBlocks.Salvaged, SalvageBlocks.none_salvaged}
use Rattle.tape_run.specs.SalvageGaps.{Gap, AreGaps, IsReadable, StartsReadable, salvaged_data}
use Rattle.tape_run.specs.SalvageSets.{HasBlocks, items_read}
use Rattle.tape_run.specs.{SalvagedSets.IsImage, SalvagedSets.HasOpened, CasesOfSalvage.gives_again}

-- the first of two equally good copies is the best
first_is_best : (a b : SectionCopy) (o : Option SectionCopy) → rank a ≡ rank b
    → IsBest (a ∷ b ∷ []) o → o ≡ Some a
first_is_best a b None same best = absurd (cc best)
first_is_best a b (Some c) same ([], rest, is, less, most) =
    let h : a ≡ c = cc is in ap (λ (x : SectionCopy). Some x) (sym h)
first_is_best a b (Some c) same (x ∷ [], rest, is, (less, none), most) = grind (arith)
first_is_best a b (Some c) same (x ∷ y ∷ front, rest, is, less, most) =
    let n = ap length is in
    let m = length-append front (c ∷ rest) in
    absurd (omega (arith, n, m))

-- the only copy is the best
only_is_best : (a : SectionCopy) (o : Option SectionCopy) → IsBest (a ∷ []) o → o ≡ Some a
only_is_best a None best = absurd (cc best)
only_is_best a (Some c) ([], rest, is, less, most) =
    let h : a ≡ c = cc is in ap (λ (x : SectionCopy). Some x) (sym h)
only_is_best a (Some c) (x ∷ front, rest, is, less, most) =
    let n = ap length is in
    let m = length-append front (c ∷ rest) in
    absurd (omega (arith, n, m))

cases_of_conflicts : CasesOfConflicts
unfolding digits
cases_of_conflicts = grind (arith, first_is_best, only_is_best)

-- a run of unreadable items is not split, and its items are not readable
not_readable : IsReadable bad → ⊥
not_readable h = h refl

one_run : (b : List ℕ) (gap : Gap)
    → AreGaps None 0 none_salvaged (block b ∷ bad ∷ bad ∷ []) (gap ∷ [])
    → (gap.first ≡ 1) × (gap.last ≡ 2) × (gap.records ≡ 1)
one_run b gap ([], rest, more, is, all, starts, one, next) = absurd (cc is)
one_run b gap (x ∷ [], rest, zero, is, all, starts, one, next) =
    let r : bad ∷ [] ≡ rest = cc is in
    absurd (not_readable (subst StartsReadable (sym r) starts))
one_run b gap (x ∷ [], rest, suc zero, is, all, starts, one, next) = grind (arith)
one_run b gap (x ∷ [], rest, suc (suc more), is, all, starts, one, next) = absurd (cc is)
one_run b gap (x ∷ y ∷ before, rest, more, is, (h, (g, all)), starts, one, next) =
    let k : bad ≡ y = cc is in absurd (not_readable (subst IsReadable (sym k) g))

none_in_nothing : (n : ℕ) (g : Salvaged) (gap : Gap) → AreGaps None n g [] (gap ∷ []) → ⊥
none_in_nothing n g gap ([], rest, more, is, all, starts, one, next) = absurd (cc is)
none_in_nothing n g gap (x ∷ before, rest, more, is, all, starts, one, next) = absurd (cc is)

not_split : (x y : Gap) → AreGaps None 0 none_salvaged (bad ∷ bad ∷ []) (x ∷ y ∷ []) → ⊥
not_split x y ([], rest, zero, is, all, starts, one, next) =
    let r : bad ∷ [] ≡ rest = cc is in
    absurd (not_readable (subst StartsReadable (sym r) starts))
not_split x y ([], rest, suc zero, is, all, starts, one, next) =
    let r : rest ≡ [] = cc is in
    let g = salvaged_data None 0 none_salvaged (bad ∷ bad ∷ []) in
    none_in_nothing (x.last + 1) g y
    (subst (λ (l : List TapeItem). AreGaps None (x.last + 1) g l (y ∷ [])) r next)
not_split x y ([], rest, suc (suc more), is, all, starts, one, next) = absurd (cc is)
not_split x y (z ∷ before, rest, more, is, (h, all), starts, one, next) =
    let k : bad ≡ z = cc is in absurd (not_readable (subst IsReadable (sym k) h))

no_gap : (b : List ℕ) (gap : Gap) → AreGaps None 0 none_salvaged (block b ∷ []) (gap ∷ []) → ⊥
no_gap b gap ([], rest, more, is, all, starts, one, next) = absurd (cc is)
no_gap b gap (x ∷ [], rest, more, is, all, starts, one, next) = absurd (cc is)
no_gap b gap (x ∷ y ∷ before, rest, more, is, all, starts, one, next) = absurd (cc is)

cases_of_gaps : CasesOfGaps
cases_of_gaps = record {
  one_run = one_run;
  reported = λ (h, none). not_readable h;
  not_split = not_split;
  no_gap = no_gap;
  most = λ a b. refl;
  other_section = λ a. refl;
  to_the_mark = λ a. refl;
  starts = not_readable;
}

-- ---- sections and volumes

nil_is : {A : Type 0} (front : List A) (x : A) (rest : List A) → [] ≡ front ++ x ∷ rest → ⊥
nil_is [] x rest e = absurd (cc e)
nil_is (y ∷ front) x rest e = absurd (cc e)

only_one : {A : Type 0} (x : A) (front : List A) (y : A) (rest : List A)
    → x ∷ [] ≡ front ++ y ∷ rest → x ≡ y
only_one x [] y rest e = cc e
only_one x (z ∷ front) y rest e =
    let t : [] ≡ front ++ y ∷ rest = cc e in absurd (nil_is front y rest t)

only_image : (n : ℕ) (r q : Reading) → slice_get (Some r ∷ []) n ≡ Some (Some q) → r ≡ q
only_image zero r q e = cc e
only_image (suc n) r q e = absurd (cc e)

cases_of_ends : CasesOfEnds
cases_of_ends = record {
  own = refl;
  other = refl;
  before = refl;
  too_few = refl;
  no_count = refl;
  own_follows = refl;
}

cases_of_closed : CasesOfClosed
cases_of_closed = record {
  no_mark = λ h. h;
  digest = λ a b. refl;
  no_items = λ u k h. nil_is h.front (block h.hdr1) _ h.is;
  too_few = λ a b u k h.
      let end = mark ∷ block h.trailer ∷ h.rest in
      let n = ap length h.is in
      let f = length-append h.front
      (block h.hdr1 ∷ (h.labels ++ (mark ∷ (h.data_items ++ end)))) in
      let g = length-append h.labels (mark ∷ (h.data_items ++ end)) in
      let m = length-append h.data_items end in
      omega (arith, n, f, g, m);
  without_hdr1 = λ u k h. nil_is h.front mark _ h.is;
  not_first = tt;
  unclosed = λ n u. tt;
}

cases_of_damaged : CasesOfDamaged
cases_of_damaged = record {
  items = λ p f a b c. refl;
  no_last_mark = refl;
  plain = record {
    no_head = λ h e. absurd (let n = (head1_found (65 ∷ []) h e).kind.size in cc n);
    no_trail = λ t e. absurd (let n = (trail1_found (65 ∷ []) t e).kind.size in cc n);
  };
  apart = λ p f a ((h, none), rest).
      let s : (p.sect == p.sect) ≡ true = grind (arith, nat_tests) in
      let t : (p.file == p.file) ≡ true = grind (arith, nat_tests) in
      let e : ((p.sect == p.sect) && (p.file == p.file)) ≡ true = rw (s, t) refl in
      absurd (cc (sym e ∙ h));
  among = λ set_id items u k h. nil_is h.among.0 h.section h.among.1 h.among.2;
  unknown_bytes = λ set h. h;
  not_opened = λ set. tt;
  one_of_set = λ set c k e h. nil_is h.among.0 h.placed h.among.1
      (sym (ap (all_numbered 1) e) ∙ h.among.2);
}

-- opening images that can be opened again leaves the source unchanged
same_source : {R : Type 0} (count : ℕ) (images now : List (Option R)) (ns : List ℕ)
    → HasOpened gives_again count images ns now → now ≡ images
same_source count images now [] h = h
same_source count images now (n ∷ ns) (within, before, image, opened, (is, same)) =
    same ∙ same_source count images before ns opened

cases_of_sets : CasesOfSalvagedSets
cases_of_sets = record {
  no_volume = λ set k xs e v. absurd (cc (sym e ∙ v.there));
  no_images = λ k (r, (front, rest, is), at). nil_is front (Some r) rest is;
  an_image = λ r. (r, (None ∷ [], [], refl), refl);
  other_volume = λ r k off (q, (front, rest, is), at).
      let e = only_one (Some r) front (Some q) rest is in
      let same : r ≡ q = cc e in off (ap (λ (z : Reading). z.volume) same ∙ at);
  no_copies = λ set file. refl;
  not_read = λ set rs c h. absurd (cc h.is);
  none_there = λ p f h. absurd (cc h.missing.0);
  all_blocks = λ p bs h. h.blocks;
  not_lost = λ set r cs p bs at (had, none). elim had [
    | inl (c, q, best, image, x, ranks) ↦
        subst (λ (z : Reading). HasBlocks set z p bs) (sym (only_image c.image r q image)) x
    | inr x ↦ absurd (x.none (r, ([], [], refl), at))
  ];
  complete_first = λ a. refl;
  fewer = λ a b. refl;
  each_section = λ set rs cs p h. h;
  in_order = λ a b c. refl;
  stopped = λ c h. let x = h c refl in absurd (cc x.1);
  no_section = λ c e. absurd (cc e);
  bad_label = λ set k e es off is h. absurd (cc (sym h.labels ∙ ap (passes (false ∷ [])) is
      ∙ ap (λ (b : Bool). (false || b) && passes [] es) off));
  nothing_found = λ set n. refl;
  must_open = λ set r h. h;
  read_image = λ set r bytes end stop begins.
      (bytes, items_read set r, end, stop, refl, begins, refl);
  opened_again = λ set file rs images are ns now left n image r opened at (is, same).
      subst (λ (i : Option (Option (List ℕ))). IsImage set file (λ d. d) r i)
      (sym (is ∙ ap (λ (l : List (Option (Option (List ℕ)))). get_or l n None)
      (same_source (length rs) images now ns opened))) (are n r at);
  opened_once = λ set r image images. images (0 ∷ []) (None ∷ []) (None ∷ []) 0 None (Some r)
      (omega arith, image ∷ [], image, refl, (refl, refl)) refl (refl, refl);
}

pub cases_of_salvage : CasesOfSalvage
cases_of_salvage = record {
  conflicts = cases_of_conflicts;
  gaps = cases_of_gaps;
  ends = cases_of_ends;
  closed = cases_of_closed;
  damaged = cases_of_damaged;
  sets = cases_of_sets;
}
