-- A walk over a sink, from some part on, compared with an image.
use Rattle.std.proofs.Common.{◌≡◌, ◌≢◌, ◌+◌, ◌<◌, ◌⊎◌, ◌++◌, ◌∷◌, [], ℕ, List, Bool, Option}
use Rattle.std.proofs.Common.{refl, sym, ap, subst, ◌∙◌, inl, inr, arith, length}
use Rattle.tape_blocks.specs.Block.{Portion}
use Rattle.tape_core.specs.{Stands.weight_of, State.State}
use Rattle.tape_core.proofs.Weights.{weight_of-append}
use Rattle.tape_image.specs.Reader.{IfKnown}
use Rattle.tape_image.proofs.Walks.{IfKnown-map}
use Rattle.tape_run.specs.declared.session.compared.overlap.{Overlap.Overlap, Found.Found}
use Rattle.tape_run.specs.declared.session.compared.overlap.Found.TheVariants.{Same, Other}
use Rattle.tape_run.specs.declared.session.compared.overlap.Found.TheVariants.{Unknown, Ended}
use Rattle.tape_run.specs.Comparing.{IsSame, IsSameFront, Finds, FindsAll}

-- what follows first parts of the same weight is the same
pub same_rest : (front last other rest : List Portion) → front ++ last ≡ other ++ rest
    → weight_of front ≡ weight_of other → last ≡ rest
same_rest [] last [] rest e w = e
same_rest [] last (q ∷ other) rest e w = absurd (omega (arith, w))
same_rest (p ∷ front) last [] rest e w = absurd (omega (arith, w))
same_rest (p ∷ front) last (q ∷ other) rest e w =
    let same : p ≡ q = cc in
    let n : length p.bytes ≡ length q.bytes = ap (λ z. length z.bytes) same in
    same_rest front last other rest (cc) (omega (arith, w, n))

-- a walk from the parts after those of a weight on returns these parts
pub behind_front : (holds ahead : List Portion → Type 0) (before : ℕ)
    → ((parts : List Portion) → holds parts → (front left : List Portion) × (parts ≡ front ++ left)
    × (weight_of front ≡ before) × ahead left)
    → (front last : List Portion) → holds (front ++ last) → weight_of front ≡ before → ahead last
behind_front holds ahead before skip front last was w =
    let (other, left, e, v, at) = skip (front ++ last) was in
    subst ahead (sym (same_rest front last other left e (w ∙ sym v))) at

module _ (wide : Bool) (o : Overlap) (core : State) (all rest : Option (List ℕ))
    (now : List Portion → Type 0) (ahead : List Portion) where
  -- the walk is not asked for more
  pub found_before : (found : Found) → found ≢ Same
      → IfKnown all rest (λ bytes l. Finds wide o core bytes found now ahead)
      → IfKnown all rest (λ bytes l. FindsAll wide o core bytes found ahead)
  found_before Same other k = absurd (other refl)
  found_before Other other k = IfKnown-map all rest _ _ (λ xs ys x. inl x) k
  found_before Unknown other k = k
  found_before Ended other k = k

  -- the walk has returned all parts
  pub found_all : (found : Found) → found ≡ Same → ((left : List Portion) → now left → left ≡ [])
      → IfKnown all rest (λ bytes l. Finds wide o core bytes found now ahead)
      → IfKnown all rest (λ bytes l. FindsAll wide o core bytes Same ahead)
  found_all Same is none k = IfKnown-map all rest _ _ (λ xs ys (left, same, at).
      subst (λ z. IsSame wide o core xs ahead z) (none left at) same) k
  found_all Other is none k = absurd (cc is)
  found_all Unknown is none k = absurd (cc is)
  found_all Ended is none k = absurd (cc is)

  -- it has more
  pub found_more : (found : Found) → found ≡ Same → (now [] → ⊥)
      → IfKnown all rest (λ bytes l. Finds wide o core bytes found now ahead)
      → IfKnown all rest (λ bytes l. FindsAll wide o core bytes Other ahead)
  found_more Same is some k = IfKnown-map all rest _ _ (λ xs ys (left, same, at).
      inr (left, (λ e. some (subst now e at)), same)) k
  found_more Other is some k = absurd (cc is)
  found_more Unknown is some k = absurd (cc is)
  found_more Ended is some k = absurd (cc is)

-- the image that was read is this one, and the core that read it this one
pub read_by : (P : State → List ℕ → Type 0) (from core : State)
    (unread all left rest : Option (List ℕ)) → unread ≡ all → rest ≡ left → from ≡ core
    → IfKnown unread left (λ bytes l. P from bytes) → IfKnown all rest (λ bytes l. P core bytes)
read_by P from core unread all left rest u r c x =
    subst (λ z. IfKnown z rest (λ bytes l. P core bytes)) u
    (subst (λ z. IfKnown unread z (λ bytes l. P core bytes)) (sym r)
    (subst (λ z. IfKnown unread left (λ bytes l. P z bytes)) c x))

-- ---- the last parts

-- the parts before the last ones have the rest of the weight
pub front_weighs : (whole before weight : ℕ) (front last : List Portion)
    → whole ≡ weight_of (front ++ last) → weight_of last ≡ weight → before + weight ≡ whole
    → weight_of front ≡ before
front_weighs whole before weight front last of w sum =
    let all = weight_of-append front last in omega (arith, all, of, w, sum)

-- and the other way round
pub last_weighs : (whole before weight : ℕ) (held front last : List Portion)
    → whole ≡ weight_of held → held ≡ front ++ last → weight_of front ≡ before
    → before + weight ≡ whole → weight_of last ≡ weight
last_weighs whole before weight held front last of e w sum =
    let all = ap weight_of e ∙ weight_of-append front last in omega (arith, all, of, w, sum)

-- parts of this weight are not that heavy
pub too_heavy : (whole weight : ℕ) (front last : List Portion)
    → whole ≡ weight_of (front ++ last) → weight_of last ≡ weight → whole < weight → ⊥
too_heavy whole weight front last of w lt =
    let all = weight_of-append front last in omega (arith, all, of, w, lt)

-- nothing else was found
pub same_or_front : (wide : Bool) (o : Overlap) (core : State) (all rest : Option (List ℕ))
    (last : List Portion) (found : Found) → found ≢ Other
    → IfKnown all rest (λ bytes l. FindsAll wide o core bytes found last)
    → IfKnown all rest (λ bytes l. IsSame wide o core bytes last []
    ⊎ IsSameFront wide o core bytes last)
same_or_front wide o core all rest last Same not k = IfKnown-map all rest _ _ (λ xs ys x. inl x) k
same_or_front wide o core all rest last Other not k = absurd (not refl)
same_or_front wide o core all rest last Unknown not k =
    IfKnown-map all rest _ _ (λ xs ys x. inr (inl x)) k
same_or_front wide o core all rest last Ended not k =
    IfKnown-map all rest _ _ (λ xs ys x. inr (inr x)) k
