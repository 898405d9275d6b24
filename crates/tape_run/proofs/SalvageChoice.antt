-- The best copy of a section, and what the copies say about the file.
use Rattle.std.proofs.Common.{◌≡◌, ℕ, ◌+◌, ◌<◌, ◌≤◌, Bool, true, false, max, take, get_or, List, []}
use Rattle.std.proofs.Common.{◌∷◌, ◌++◌, length, Option, Some, None, refl, sym, ap, subst, ◌∙◌}
use Rattle.std.proofs.Common.{arith, append_assoc, append-nil, ◌⊎◌, inl, inr}
use Rattle.std.proofs.lemmas.List.{take_more}
use Rattle.std.specs.{Prelude.if◌then◌else◌, List.AllByRecursion}
use Rattle.tape_set.proofs.Everywhere.{every, every-append}
use Rattle.tape_run.specs.SalvageChoice.{is_considered, firsts, IsBest}
use Rattle.tape_run.specs.{declared.salvage.copies.SectionCopy.SectionCopy, SalvageCopies.rank}
use Rattle.tape_run.specs.SalvageChoice.{last_section}

-- ---- the best copy

-- the image of the last of these copies
abbrev pub last_image : ℕ → Option ℕ → List SectionCopy → Option ℕ
last_image sect last [] = last
last_image sect last (c ∷ cs) =
    if is_considered sect last c then last_image sect (Some c.image) cs else last_image sect last cs

-- the best of these copies was chosen
pub record IsChoice (sect : ℕ) (cs : List SectionCopy) (best : Option SectionCopy)
    (last : Option ℕ) : Type 0 where
  pub is_best : IsBest (firsts sect None cs) best
  pub at : last ≡ last_image sect None cs

-- one more copy
pub record More (sect : ℕ) (last : Option ℕ) (cs : List SectionCopy) (c : SectionCopy) (b : Bool)
    : Type 0 where
  pub first : firsts sect last (cs ++ c ∷ [])
      ≡ firsts sect last cs ++ (if b then c ∷ [] else [])
  pub image : last_image sect last (cs ++ c ∷ [])
      ≡ (if b then Some c.image else last_image sect last cs)

more_by : (sect : ℕ) (x c : SectionCopy) (cs : List SectionCopy) (last : Option ℕ) (a b : Bool)
    → ((l : Option ℕ) → is_considered sect (last_image sect l cs) c ≡ b → More sect l cs c b)
    → is_considered sect (if a then last_image sect (Some x.image) cs else last_image sect last cs)
    c ≡ b
    → ((if a then x ∷ firsts sect (Some x.image) (cs ++ c ∷ []) else firsts sect last (cs ++ c ∷
    [])) ≡ (if a then x ∷ firsts sect (Some x.image) cs else firsts sect last cs)
    ++ (if b then c ∷ [] else []))
    × ((if a then last_image sect (Some x.image) (cs ++ c ∷ []) else last_image sect last (cs ++ c
    ∷ [])) ≡ (if b then Some c.image else (if a then last_image sect (Some x.image) cs else
    last_image sect last cs)))
more_by sect x c cs last true b ih e =
    let h = ih (Some x.image) e in (ap (λ (l : List SectionCopy). x ∷ l) h.first, h.image)
more_by sect x c cs last false b ih e = let h = ih last e in (h.first, h.image)

pub more : (sect : ℕ) (last : Option ℕ) (cs : List SectionCopy) (c : SectionCopy) (b : Bool)
    → is_considered sect (last_image sect last cs) c ≡ b → More sect last cs c b
more sect last [] c true e = record { first = rw e refl; image = rw e refl }
more sect last [] c false e = record { first = rw e refl; image = rw e refl }
more sect last (x ∷ cs) c b e =
    let h = more_by sect x c cs last (is_considered sect last x) b
    (λ l f. more sect l cs c b f) e in
    record { first = h.0; image = h.1 }

pub still_best : (cs : List SectionCopy) (b c : SectionCopy) → rank c ≤ rank b
    → IsBest cs (Some b) → IsBest (cs ++ c ∷ []) (Some b)
still_best cs b c lower (front, rest, is, less, most) = (
  front,
  rest ++ c ∷ [],
  ap (λ (l : List SectionCopy). l ++ c ∷ []) is ∙ append_assoc front (b ∷ rest) (c ∷ []),
  less,
  every-append (λ d. rank d ≤ rank b) rest (c ∷ []) most (lower, tt),
)

pub new_best : (cs : List SectionCopy) (b c : SectionCopy) → rank b < rank c
    → IsBest cs (Some b) → IsBest (cs ++ c ∷ []) (Some c)
new_best cs b c more_rank (front, rest, is, less, most) = (
  cs,
  [],
  refl,
  subst (AllByRecursion (λ d. rank d < rank c)) (sym is)
      (every-append (λ d. rank d < rank c) front (b ∷ rest)
      (every (λ d. rank d < rank b) (λ d. rank d < rank c)
      (λ d h. omega (arith, h, more_rank)) front less) (
        more_rank,
        every (λ d. rank d ≤ rank b) (λ d. rank d < rank c)
            (λ d h. omega (arith, h, more_rank)) rest most,
      )),
  tt,
)

-- one more copy before the others
best_with : (c : SectionCopy) (cs : List SectionCopy)
    → (best : Option SectionCopy) × IsBest cs best
    → (best : Option SectionCopy) × IsBest (c ∷ cs) best
best_with c cs (None, none) = (
  Some c,
  ([], cs, refl, tt, subst (AllByRecursion (λ d. rank d ≤ rank c)) (sym none) tt),
)
best_with c cs (Some b, (front, rest, is, less, most)) = elim (one_of (rank b) (rank c)) [
  | inl low ↦ (
    Some c,
    (
      [],
      cs,
      refl,
      tt,
      subst (AllByRecursion (λ d. rank d ≤ rank c)) (sym is)
          (every-append (λ d. rank d ≤ rank c) front (b ∷ rest)
          (every (λ d. rank d < rank b) (λ d. rank d ≤ rank c)
          (λ d h. omega (arith, h, low)) front less) (
            low,
            every (λ d. rank d ≤ rank b) (λ d. rank d ≤ rank c)
                (λ d h. omega (arith, h, low)) rest most,
          )),
    ),
  )
  | inr high ↦
      (Some b, (c ∷ front, rest, ap (λ (l : List SectionCopy). c ∷ l) is, (high, less), most))
]
  where
    one_of : (m n : ℕ) → (m ≤ n) ⊎ (n < m)
    one_of m n = grind arith

-- there is a best copy, unless there are none
pub some_best : (cs : List SectionCopy) → (best : Option SectionCopy) × IsBest cs best
some_best [] = (None, refl)
some_best (c ∷ cs) = best_with c cs (some_best cs)

-- one more copy, which may be considered or not
pub passes_copy : (sect : ℕ) (cs : List SectionCopy) (c : SectionCopy) (best : Option SectionCopy)
    (last : Option ℕ) → is_considered sect last c ≡ false → IsChoice sect cs best last
    → IsChoice sect (cs ++ c ∷ []) best last
passes_copy sect cs c best last off h =
    let m = more sect None cs c false (ap (λ l. is_considered sect l c) (sym h.at) ∙ off) in
    record {
      is_best = subst (λ l. IsBest l best)
          (sym (m.first ∙ append-nil (firsts sect None cs))) h.is_best;
      at = h.at ∙ sym m.image;
    }

pub takes_copy : (sect : ℕ) (cs : List SectionCopy) (c : SectionCopy)
    (best new : Option SectionCopy) (last : Option ℕ) → is_considered sect last c ≡ true
    → IsChoice sect cs best last
    → ((ds : List SectionCopy) → IsBest ds best → IsBest (ds ++ c ∷ []) new)
    → IsChoice sect (cs ++ c ∷ []) new (Some c.image)
takes_copy sect cs c best new last on h better =
    let m = more sect None cs c true (ap (λ l. is_considered sect l c) (sym h.at) ∙ on) in
    record {
      is_best = subst (λ l. IsBest l new) (sym m.first) (better (firsts sect None cs) h.is_best);
      at = sym m.image;
    }

-- ---- the sections found among the copies

pub last_more : (cs : List SectionCopy) (c : SectionCopy)
    → last_section (cs ++ c ∷ []) ≡ max (last_section cs) c.section.key.sect
last_more [] c = omega arith
last_more (d ∷ cs) c = let r = last_more cs c in omega (arith, r)

-- none of these copies has a greater number
pub last_at : (front : List SectionCopy) (c : SectionCopy) (rest : List SectionCopy)
    → c.section.key.sect ≤ last_section (front ++ c ∷ rest)
last_at [] c rest = omega arith
last_at (x ∷ front) c rest = let h = last_at front c rest in omega (arith, h)

pub last_most : (cs : List SectionCopy) (n : ℕ)
    → AllByRecursion (λ c. c.section.key.sect ≤ n) cs → last_section cs ≤ n
last_most [] n all = omega arith
last_most (c ∷ cs) n (h, all) = let r = last_most cs n all in omega (arith, h, r)

-- one more copy of the section
pub taken_more : {X : Type 0} (xs : List X) (place : ℕ) (x z : X) → place < length xs
    → x ≡ get_or xs place z → take (place + 1) xs ≡ take place xs ++ x ∷ []
taken_more xs place x z within is =
    take_more xs place z within ∙ ap (λ y. take place xs ++ y ∷ []) (sym is)

pub last_up_to : (cs : List SectionCopy) (place : ℕ) (c : SectionCopy) (old new : ℕ)
    → place < length cs → c ≡ get_or cs place c → old ≡ last_section (take place cs)
    → new ≡ max old c.section.key.sect → new ≡ last_section (take (place + 1) cs)
last_up_to cs place c old new within is before more =
    more ∙ ap (λ n. max n c.section.key.sect) before
    ∙ sym (ap last_section (taken_more cs place c c within is) ∙ last_more (take place cs) c)
