-- The parts of a catalogue that adding sections does not change.
use Rattle.std.proofs.Common.{◌≡◌, ◌⊎◌, inl, inr, ℕ, Bool, true, false, List, [], ◌∷◌, ◌++◌, refl}
use Rattle.std.proofs.Common.{sym, ap, subst, ◌∙◌, append_assoc, append-nil, arith, ⊎_elim, map}
use Rattle.std.proofs.{Common.if◌then◌else◌, Common.◌==◌, Common.◌&&◌, lemmas.Bool.and_parts}
use Rattle.std.proofs.{lemmas.Slice.Eq.bytes_eq-Decides, lemmas.Bool.Decides.nat_tests}
use Rattle.std.specs.{List.AllByRecursion, Str.bytes_eq}
use Rattle.tape_image.specs.Tape.{TapeItem}
use Rattle.tape_run.specs.Noted.{same_key, better, noted, noted_all, StandsIn, KeepsPlaces}
use Rattle.tape_run.specs.{declared.section.SectionKey.SectionKey, declared.section.Entry.Entry}
use Rattle.tape_run.specs.{declared.section.SectionState.TheVariants.Good, Shown.Shown}
use Rattle.tape_run.specs.{Passing.Told, Passing.met_in, Noted.GoodIsShown}
use Rattle.tape_run.proofs.ShownSections.{good_are_shown}

pub noted_all-append : (c ts us : List Told)
    → noted_all c (ts ++ us) ≡ noted_all (noted_all c ts) us
noted_all-append c [] us = refl
noted_all-append c (t ∷ ts) us = noted_all-append (noted c t) ts us

-- ---- places

abbrev keys : List Told → List SectionKey
keys ts = map (λ t. t.0) ts

place_kept : (x : Told) (xs : List Told) (t : Told) (b : Bool) → KeepsPlaces xs (noted xs t)
    → KeepsPlaces (x ∷ xs) (if b then (x.0, better x.1 t.1) ∷ xs else x ∷ noted xs t)
place_kept x xs t true h = ([], ap (λ (r : List SectionKey). x.0 ∷ r) (sym (append-nil (keys xs))))
place_kept x xs t false (more, e) = (more, ap (λ (r : List SectionKey). x.0 ∷ r) e)

keeps_place : (xs : List Told) (t : Told) → KeepsPlaces xs (noted xs t)
keeps_place [] t = (t.0 ∷ [], refl)
keeps_place (x ∷ xs) t = place_kept x xs t (same_key t.0 x.0) (keeps_place xs t)

pub keeps_places : (old ts : List Told) → KeepsPlaces old (noted_all old ts)
keeps_places old [] = ([], sym (append-nil (keys old)))
keeps_places old (t ∷ ts) =
    let (first, e) = keeps_place old t in
    let (more, f) = keeps_places (noted old t) ts in (
      first ++ more,
      f ∙ ap (λ (r : List SectionKey). r ++ more) e ∙ append_assoc (keys old) first more,
    )

-- ---- what is good

same_nat : (m n : ℕ) → (m == n) ≡ true → m ≡ n
same_nat m n e = grind (arith, nat_tests, e)

-- keys that compare as equal are equal
pub one_key : (a b : SectionKey) → same_key a b ≡ true → a ≡ b
one_key a b e =
    let (ids, numbers) =
    and_parts (bytes_eq a.set_id b.set_id) ((a.file == b.file) && (a.sect == b.sect)) e in
    let (files, sects) = and_parts (a.file == b.file) (a.sect == b.sect) numbers in
    let key : List ℕ → ℕ → ℕ → SectionKey = λ i f s. record { set_id = i; file = f; sect = s } in
    ap (λ (i : List ℕ). key i a.file a.sect) ((bytes_eq-Decides a.set_id b.set_id).0 ids)
    ∙ ap (λ (f : ℕ). key b.set_id f a.sect) (same_nat a.file b.file files)
    ∙ ap (λ (s : ℕ). key b.set_id b.file s) (same_nat a.sect b.sect sects)

stands_behind : (x : Told) (xs : List Told) (t : Told) → StandsIn xs t → StandsIn (x ∷ xs) t
stands_behind x xs t (front, rest, e) = (x ∷ front, rest, ap (λ (r : List Told). x ∷ r) e)

-- the first entry, or a later one
split : (x : Told) (xs : List Told) (t : Told) → StandsIn (x ∷ xs) t → (x ≡ t) ⊎ StandsIn xs t
split x xs t ([], rest, e) = inl cc
split x xs t (y ∷ front, rest, e) = inr (front, rest, cc)

pub none_stands : (t : Told) → StandsIn [] t → ⊥
none_stands t ([], rest, e) = cc e
none_stands t (y ∷ front, rest, e) = cc e

abbrev better_if : Bool → Entry → Entry → Entry
better_if c old new = if c then new else old

-- the entry of a known section
good_here : (items : List TapeItem) (x : Told) (xs : List Told) (t u : Told) (c : Bool) → t.0 ≡ x.0
    → (t.1.state ≡ Good → Shown items t.0 t.1)
    → (x.0, better_if c x.1 t.1) ≡ u → u.1.state ≡ Good → StandsIn (x ∷ xs) u ⊎ Shown items u.0 u.1
good_here items x xs t u true same h is good =
    let whole : t ≡ u = ap (λ (k : SectionKey). (k, t.1)) same ∙ is in
    inr (subst (λ (w : Told). Shown items w.0 w.1) whole
    (h (subst (λ (w : Told). w.1.state ≡ Good) (sym whole) good)))
good_here items x xs t u false same h is good = inl ([], xs, ap (λ (w : Told). w ∷ xs) is)

good_there : (items : List TapeItem) (x : Told) (xs : List Told) (t u : Told) (b : Bool)
    → same_key t.0 x.0 ≡ b → (t.1.state ≡ Good → Shown items t.0 t.1)
    → (StandsIn (noted xs t) u → StandsIn xs u ⊎ Shown items u.0 u.1)
    → StandsIn (if b then (x.0, better x.1 t.1) ∷ xs else x ∷ noted xs t) u → u.1.state ≡ Good
    → StandsIn (x ∷ xs) u ⊎ Shown items u.0 u.1
good_there items x xs t u true e h rest at good =
    ⊎_elim (λ is. good_here items _ xs _ _ _ (one_key _ _ e) h is good)
    (λ s. inl (stands_behind x _ _ s)) (split _ _ _ at)
good_there items x xs t u false e h rest at good =
    ⊎_elim (λ is. inl ([], xs, ap (λ (w : Told). w ∷ xs) is)) (λ s. ⊎_elim
    (λ z. inl (stands_behind x _ _ z)) (λ z. inr z) (rest s)) (split _ _ _ at)

good_one : (items : List TapeItem) (xs : List Told) (t u : Told)
    → (t.1.state ≡ Good → Shown items t.0 t.1) → u.1.state ≡ Good → StandsIn (noted xs t) u
    → StandsIn xs u ⊎ Shown items u.0 u.1
good_one items [] t u h good at =
    ⊎_elim (λ is. inr (subst (λ (w : Told). Shown items w.0 w.1) is
    (h (subst (λ (w : Told). w.1.state ≡ Good) (sym is) good)))) (λ s. absurd (none_stands u s))
    (split t [] u at)
good_one items (x ∷ xs) t u h good at =
    good_there items x xs t u (same_key t.0 x.0) refl h (good_one items xs t u h good) at good

good_all : (items : List TapeItem) (old ts : List Told)
    → AllByRecursion (λ t. t.1.state ≡ Good → Shown items t.0 t.1) ts
    → GoodIsShown items old (noted_all old ts)
good_all items old [] h u at good = inl at
good_all items old (t ∷ ts) (h, hs) u at good =
    ⊎_elim (λ s. good_one items old t u h good s) (λ s. inr s)
    (good_all items (noted old t) ts hs u at good)

pub good_is_shown : (items : List TapeItem) (old : List Told)
    → GoodIsShown items old (noted_all old (met_in items))
good_is_shown items old = good_all items old (met_in items) (good_are_shown items)
