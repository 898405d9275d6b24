-- Complete readings of all volumes, in order, move a file from its start to its end.
use Rattle.std.proofs.Common.{◌≡◌, ◌⊎◌, inl, inr, ℕ, zero, suc, ◌+◌, ◌<◌, ◌≤◌, Bool, true, false}
use Rattle.std.proofs.Common.{List, [], ◌∷◌, ◌++◌, length, Option, Some, None, refl, sym, ap, subst}
use Rattle.std.proofs.{Common.◌∙◌, Common.arith, Common.eq-eqb, lemmas.Bool.Decides.nat_tests}
use Rattle.std.specs.Prelude.{IsSome, option_and_then, slice_get, ◌==◌}
use Rattle.tape_blocks.specs.Tight.{Chain}
use Rattle.tape_set.specs.declared.position.Position.TheVariants.{Awaits, Finished}
use Rattle.tape_set.specs.Layout.{FileSet, Section, Placed, nth, file_of, section_of, sections}
use Rattle.tape_set.specs.Layout.{numbered, all_numbered, ends_file}
use Rattle.tape_set.specs.Lawful.{IsLawful, IsFile, IsSection, GoesOn, Ends}
use Rattle.tape_set.specs.{declared.position.Position.Position, Position.start, Position.awaiting}
use Rattle.tape_set.specs.{Position.at_part, Before.IsIn, Reading.whole_reading}
use Rattle.tape_set.specs.{Reading.whole_readings, Reach.far, Reach.far_over}
use Rattle.tape_set.specs.{Reach.behind, Laws.GoesOnOnNext, Laws.FilesBegin, Laws.WholeGivesFile}
use Rattle.tape_set.proofs.Everywhere.{every_at, every_stands, is_there}
use Rattle.tape_set.proofs.Numbering.{placed, section_found, section_stands}
use Rattle.tape_set.proofs.{FileParts.ends_at, FileParts.file_is, Whole.whole_gives}

-- ---- the next section is on the next volume

on_next : (x y : Placed) → x.file ≡ y.file → GoesOn x y → y.section.volume ≡ x.section.volume + 1
on_next x y e h = grind (arith, eq-eqb)

chain_rest : (x : Placed) (xs : List Placed) → Chain GoesOn (x ∷ xs) → Chain GoesOn xs
chain_rest x [] c = tt
chain_rest x (y ∷ ys) c = c.1

chain_behind : (xs ys : List Placed) → Chain GoesOn (xs ++ ys) → Chain GoesOn ys
chain_behind [] ys c = c
chain_behind (x ∷ xs) ys c = chain_behind xs ys (chain_rest x (xs ++ ys) c)

-- the second of two consecutive sections of a file, numbered from j, is on the next volume
next_volume : (file j : ℕ) (ss : List Section) (rest : List Placed) (i : ℕ) (s t : Section)
    → Chain GoesOn (numbered file j ss ++ rest) → slice_get ss i ≡ Some s
    → slice_get ss (i + 1) ≡ Some t → t.volume ≡ s.volume + 1
next_volume file j [] rest i s t c e f = absurd (cc)
next_volume file j (x ∷ []) rest zero s t c e f = absurd (cc)
next_volume file j (x ∷ y ∷ ss) rest zero s t c e f = grind (arith, on_next)
next_volume file j (x ∷ ss) rest (suc i) s t c e f =
    let q : suc i + 1 ≡ suc (i + 1) = omega arith in
    next_volume file (j + 1) ss rest i s t
    (chain_rest (placed file j x) (numbered file (j + 1) ss ++ rest) c) e
    (subst (λ n. slice_get (x ∷ ss) n ≡ Some t) q f)

-- the same for a file among those with numbers from m
pub next_in : (m n : ℕ) (fs : List (List Section)) (f : List Section) (i : ℕ) (s t : Section)
    → Chain GoesOn (all_numbered m fs) → slice_get fs n ≡ Some f → slice_get f i ≡ Some s
    → slice_get f (i + 1) ≡ Some t → t.volume ≡ s.volume + 1
next_in m n [] f i s t c g e h = absurd (cc)
next_in m zero (x ∷ fs) f i s t c g e h = grind (arith, next_volume, slice_get)
next_in m (suc n) (x ∷ fs) f i s t c g e h =
    next_in (m + 1) n fs f i s t (chain_behind (numbered m 1 x) (all_numbered (m + 1) fs) c) g e h

pub goes_on_on_next : (set : FileSet) → IsLawful set → GoesOnOnNext set
goes_on_on_next set lawful file sect s t here there =
    let a = section_found set file sect s here in
    let b = section_found set file (sect + 1) t there in
    let both : Some a.sections ≡ Some b.sections =
    sym (file_is set file sect s a) ∙ file_is set file (sect + 1) t b in
    let same : a.sections ≡ b.sections = cc in
    let n : b.sect_at.place ≡ a.sect_at.place + 1 =
    omega (arith, a.sect_at.number, b.sect_at.number) in
    let next : slice_get a.sections (a.sect_at.place + 1) ≡ Some t =
    ap (λ v. slice_get v (a.sect_at.place + 1)) same
    ∙ (ap (λ m. slice_get b.sections m) (sym n) ∙ b.sect_at.found) in
    next_in 1 a.file_at.place set.files a.sections a.sect_at.place s t lawful.goes_on
    a.file_at.found a.sect_at.found next

-- ---- a file and a section of a valid set

pub file_is_lawful : (set : FileSet) (file : ℕ) (f : List Section) → IsLawful set
    → file_of set file ≡ Some f → IsFile f
file_is_lawful set zero f l e = absurd (cc)
file_is_lawful set (suc i) f l e = every_at IsFile set.files i f l.files e

-- a file that ends has a first section
first_of : (f : List Section) → Ends f → (s : Section) × (nth f 1 ≡ Some s)
first_of [] e = absurd e
first_of (s ∷ ss) e = (s, refl)

pub has_start : (set : FileSet) → IsLawful set → FilesBegin set
has_start set l file h = go (file_of set file) refl h
  where
    go : (o : Option (List Section)) → file_of set file ≡ o → IsSome o → IsIn set file start
    go None e g = absurd (cc)
    go (Some f) e g =
        let lawful : IsFile f = file_is_lawful set file f l e in
        let (s, first) = first_of f lawful.ends in
        let found : section_of set file 1 ≡ Some s =
        ap (λ (o : Option (List Section)). option_and_then (λ f. nth f 1) o) e ∙ first in
        (s, found, omega arith, inl refl)

-- the volume of a section is one of the set
pub lawful_section : (set : FileSet) (file sect : ℕ) (s : Section) → IsLawful set
    → section_of set file sect ≡ Some s
    → (1 ≤ s.volume) × (s.volume ≤ length set.volumes)
lawful_section set file sect s l e =
    (every_stands (IsSection set.set_id (length set.volumes)) (sections set)
    (placed file sect s) l.each (section_stands set file sect s e)).volume

-- ---- the rest of the file after volume k

-- the file is finished, or the start of a section on a later volume is expected
abbrev pub ToCome : FileSet → ℕ → ℕ → Position → Type 0
ToCome set file k p = (p ≡ Finished) ⊎ ((sect : ℕ) × (s : Section)
    × (section_of set file sect ≡ Some s) × (k < s.volume) × (p ≡ awaiting sect 0))

-- after a section the file is finished, or continues on a later volume
pub onward : (set : FileSet) (file sect : ℕ) (s : Section) → IsLawful set
    → section_of set file sect ≡ Some s → ToCome set file s.volume (behind sect s)
onward set zero sect s l e = absurd (cc)
onward set (suc n) zero s l e = grind (arith, slice_get, option_and_then)
onward set (suc n) (suc i) s l e = go (slice_get set.files n) refl e
  where
    by_end : (f : List Section) → slice_get set.files n ≡ Some f → slice_get f i ≡ Some s
        → ((ends_file s ≡ true) × (length f ≡ i + 1)) ⊎ ((ends_file s ≡ false)
        × ((t : Section) × (slice_get f (i + 1) ≡ Some t)))
        → ToCome set (suc n) s.volume (behind (suc i) s)
    by_end f g h (inl (last, size)) = inl (rw last refl)
    by_end f g h (inr (more, (t, next))) =
        let volume : t.volume ≡ s.volume + 1 = next_in 1 n set.files f i s t l.goes_on g h next in
        let found : section_of set (suc n) (suc (i + 1)) ≡ Some t =
        ap (λ (o : Option (List Section)). option_and_then (λ f. nth f (suc (i + 1))) o) g ∙ next in
        let q : suc i + 1 ≡ suc (i + 1) = omega arith in
        inr (suc (i + 1), t, found, omega (arith, volume), rw more (ap (λ z. Awaits z 0 0) q))

    go : (o : Option (List Section)) → slice_get set.files n ≡ o
        → option_and_then (λ f. nth f (suc i)) o ≡ Some s
        → ToCome set (suc n) s.volume (behind (suc i) s)
    go None g h = absurd (cc)
    go (Some f) g h = by_end f g h (ends_at f i s (file_is_lawful set (suc n) f l g).ends h)

-- a complete reading of the next volume passes the section on it, or leaves the position unchanged
pub step_over : (set : FileSet) (file k : ℕ) (p : Position) → IsLawful set → ToCome set file k p
    → ToCome set file (k + 1) (far set file p (whole_reading set (k + 1)))
step_over set file k p l (inl e) = inl (rw e refl)
step_over set file k p l (inr (sect, s, found, later, e)) = rw e (here (s.volume == (k + 1)) refl)
  where
    here : (t : Bool) → (s.volume == (k + 1)) ≡ t
        → ToCome set file (k + 1) (far set file (awaiting sect 0) (whole_reading set (k + 1)))
    here true q =
        let same : s.volume ≡ k + 1 = grind (arith, nat_tests, q) in
        let fits = lawful_section set file sect s l found in
        let gives : far set file (at_part 0 (awaiting sect 0)) (whole_reading set s.volume)
        ≡ behind sect s =
        whole_gives set file sect 0 0 s found (is_there set.volumes s.volume fits.0 fits.1)
        (omega arith) in
        let gives' : far set file (awaiting sect 0) (whole_reading set (k + 1)) ≡ behind sect s =
        subst (λ v. far set file (awaiting sect 0) (whole_reading set v) ≡ behind sect s)
        same gives in
        subst (ToCome set file (k + 1)) (sym gives')
        (subst (λ v. ToCome set file v (behind sect s)) same (onward set file sect s l found))
    here false q = grind arith

-- complete readings of all volumes from the next one
pub all_over : (set : FileSet) (file n k : ℕ) (p : Position) → IsLawful set
    → k + n ≡ length set.volumes → ToCome set file k p
    → far_over set file p (whole_readings set k n) ≡ Finished
all_over set file zero k p l e (inl f) = f
all_over set file zero k p l e (inr (sect, s, found, later, f)) = grind (arith, lawful_section)
all_over set file (suc n) k p l e t =
    all_over set file n (k + 1) (far set file p (whole_reading set (k + 1))) l
    (omega (arith, e)) (step_over set file k p l t)

-- before all volumes the whole file is still to be read
pub to_come_at_start : (set : FileSet) (file : ℕ) → IsLawful set → IsSome (file_of set file)
    → ToCome set file 0 start
to_come_at_start set file l has = grind (arith, has_start, lawful_section)

pub there_and_back : (set : FileSet) → IsLawful set → WholeGivesFile set
there_and_back set l file has = grind (arith, all_over, to_come_at_start)
