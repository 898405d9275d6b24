-- On any reel, the items that a comparison with the parts of a session passed: data of a section,
-- the last blocks of which have these parts.
use Rattle.std.proofs.Common.{◌≡◌, ◌≢◌, ◌≤◌, ◌<◌, ◌⊎◌, inl, inr, ℕ, ◌+◌, Bool, true, false, List}
use Rattle.std.proofs.Common.{[], ◌∷◌, ◌++◌, length, map, Some, refl, sym}
use Rattle.std.proofs.Common.{ap, subst, ◌∙◌, arith, append_assoc, append-nil, length-append}
use Rattle.std.specs.{List.AllByRecursion}
use Rattle.tape_image.specs.Tape.{TapeItem, block, bad, mark}
use Rattle.tape_blocks.specs.Block.{Portion}
use Rattle.tape_set.specs.declared.position.Position.{Position}
use Rattle.tape_set.specs.declared.position.Position.TheVariants.{Finished}
use Rattle.tape_set.specs.Position.{block_of}
use Rattle.tape_set.specs.Lawful.{FileForm}
use Rattle.tape_core.specs.declared.event.{Heading.Heading}
use Rattle.tape_core.specs.declared.event.{Phase.Phase}
use Rattle.tape_core.specs.declared.event.Answer.TheVariants.{Passed}
use Rattle.tape_core.specs.declared.event.Phase.TheVariants.{DataWanted}
use Rattle.tape_core.specs.declared.event.Phase.TheVariants.{TrailerWanted}
use Rattle.tape_core.specs.Table.{Outcome, at_item}
use Rattle.tape_core.specs.{State.State, Overlap.FitAll, Overlap.Contains}
use Rattle.tape_core.specs.Wide.{step_by, read_as, item_by}
use Rattle.tape_run.specs.Reels.{GoesOn, behind_items}
use Rattle.tape_run.specs.SectionEnds.{data_of}
use Rattle.tape_run.specs.Comparing.{Meets, MeetAll}
use Rattle.tape_run.proofs.SectionOpens.{IsOutside, step_opens}
use Rattle.tape_run.proofs.{CopyTold.ends_there}
use Rattle.tape_run.proofs.SectionSteps.{Goes, skips, delivers, closes, data_steps, by_table}
use Rattle.tape_run.proofs.SectionSteps.{unless_goes}
use Rattle.tape_run.proofs.SectionStands.{map_push, push, all_more}

-- the block as the reading takes it
read_data : (wide : Bool) (core : State) (heading : Heading) (form : FileForm) (seen : ℕ)
    (bytes : List ℕ) → core.phase ≡ DataWanted heading form seen
    → read_as wide core (block bytes) ≡ block (data_of wide form bytes)
read_data false core heading form seen bytes e = refl
read_data true core heading form seen bytes e = ap (λ z. item_by z (block bytes)) e

fits_more : (wide : Bool) (form : FileForm) (held mid left : List Portion) (texts : List (List ℕ))
    (text : List ℕ) → FitAll form held (map (data_of wide form) texts) mid
    → (parts : List Portion) → Contains form (data_of wide form text) parts → mid ≡ parts ++ left
    → FitAll form held (map (data_of wide form) (texts ++ text ∷ [])) left
fits_more wide form held mid left [] text same parts c q =
    (left, (parts, c, sym same ∙ q), refl)
fits_more wide form held mid left (t ∷ texts) text (next, (ps, d, r), rest) parts c q =
    (next, (ps, d, r), fits_more wide form next mid left texts text rest parts c q)

-- ---- the items that were compared

module _ (wide : Bool) (from : ℕ) (held : List Portion) (p : Position) (waits : p ≢ Finished) where
  -- The last items are a mark and data of the section, which the reading passed: the blocks from
  -- number `from` on have the parts of `held`, up to these.
  pub record Skipping (xs : List TapeItem) (core : State) (form : FileForm) (seen : ℕ)
      (ahead : List Portion) : Type 0 where
    pub front : List TapeItem
    pub passed : List TapeItem
    pub texts : List (List ℕ)
    pub all : xs ≡ front ++ (mark ∷ (passed ++ map block texts))
    pub no_mark : AllByRecursion (λ x. x ≢ mark) passed
    pub sum : length passed + length texts ≡ seen
    pub few : length passed ≤ from
    pub full : (length passed ≡ from) ⊎ (texts ≡ [])
    pub fits : FitAll form held (map (data_of wide form) texts) ahead
    pub at : core.position ≡ p
    pub most : seen ≤ block_of p

  abbrev pub Held : List TapeItem → State → Phase → List Portion → Type 0
  Held xs core (DataWanted heading form seen) ahead = Skipping xs core form seen ahead
  Held xs core (TrailerWanted heading form) ahead = core.position ≡ p
  Held xs core _ ahead = (core.position ≡ p) × (ahead ≡ held)

  pub outside : (xs : List TapeItem) (core : State) (phase : Phase) (ahead : List Portion)
      → IsOutside phase → core.position ≡ p → ahead ≡ held → Held xs core phase ahead
  outside xs core (DataWanted heading form seen) ahead o at same = absurd o
  outside xs core (TrailerWanted heading form) ahead o at same = absurd o
  outside xs core _ ahead o at same = (at, same)

  module _ (core : State) (xs : List TapeItem) (x : TapeItem) (ahead left : List Portion)
      (passed : (step_by wide core (Some x)).0 ≡ Passed) where
    abbrev new : State
    new = (step_by wide core (Some x)).1

    module _ (heading : Heading) (form : FileForm) (seen : ℕ)
        (e : core.phase ≡ DataWanted heading form seen) (h : Skipping xs core form seen ahead)
        (lt : seen < block_of p) (same : new.position ≡ core.position) where
      -- an item that is not compared
      unread : x ≢ mark → seen < from → left ≡ ahead → Skipping (xs ++ x ∷ []) new form (seen + 1) left
      unread off early kept =
          let sum = h.sum in
          let none : h.texts ≡ [] = elim h.full [
            | inl all ↦ absurd (omega (arith, all, sum, early))
            | inr none ↦ none
          ] in
          let zero' : length h.texts ≡ 0 = ap length none in
          record {
            front = h.front;
            passed = h.passed ++ x ∷ [];
            texts = [];
            all = ap (λ z. z ++ (x ∷ [])) (h.all ∙ ap (λ z. h.front ++ (mark ∷ (h.passed
                ++ map block z))) none) ∙ push h.front h.passed [] x
                ∙ ap (λ z. h.front ++ (mark ∷ z)) (sym (append-nil (h.passed ++ (x ∷ []))));
            no_mark = all_more (λ y. y ≢ mark) h.passed x h.no_mark off;
            sum = let l = length-append h.passed (x ∷ []) in omega (arith, l, zero', sum);
            few = let l = length-append h.passed (x ∷ []) in omega (arith, l, zero', sum, early);
            full = inr refl;
            fits = kept ∙ subst (λ z. FitAll form held (map (data_of wide form) z) ahead) none h.fits;
            at = same ∙ h.at;
            most = omega (arith, lt);
          }

      -- a block that is compared
      read : (bytes : List ℕ) → x ≡ block bytes → from ≤ seen → (parts : List Portion)
          → Contains form (data_of wide form bytes) parts → ahead ≡ parts ++ left
          → Skipping (xs ++ x ∷ []) new form (seen + 1) left
      read bytes is late parts c q =
          let sum = h.sum in
          let few = h.few in
          let all : length h.passed ≡ from = elim h.full [
            | inl all ↦ all
            | inr none ↦
                let zero' : length h.texts ≡ 0 = ap length none in
                omega (arith, zero', sum, late, few)
          ] in
          record {
            front = h.front;
            passed = h.passed;
            texts = h.texts ++ bytes ∷ [];
            all = ap (λ z. z ++ (x ∷ [])) h.all ∙ push h.front h.passed (map block h.texts) x
                ∙ ap (λ z. h.front ++ (mark ∷ (h.passed ++ (map block h.texts ++ (z ∷ []))))) is
                ∙ ap (λ z. h.front ++ (mark ∷ (h.passed ++ z))) (map_push h.texts bytes);
            no_mark = h.no_mark;
            sum = let l = length-append h.texts (bytes ∷ []) in omega (arith, l, sum);
            few = few;
            full = inl all;
            fits = fits_more wide form held ahead left h.texts bytes h.fits parts c q;
            at = same ∙ h.at;
            most = omega (arith, lt);
          }

      skipped : (y : TapeItem) → x ≡ y → y ≢ mark
          → Meets from (DataWanted heading form seen) (read_as wide core y) ahead left
          → Skipping (xs ++ x ∷ []) new form (seen + 1) left
      skipped mark is off meets = absurd (off refl)
      skipped bad is off meets =
          let (early, kept) = subst (λ z. Meets from (DataWanted heading form seen) z ahead left)
          (read_bad wide core) meets in
          unread (λ m. let z = sym is ∙ m in cc z) early kept
        where
          read_bad : (wide : Bool) (core : State) → read_as wide core bad ≡ bad
          read_bad false core = refl
          read_bad true core = refl
      skipped (block bytes) is off meets =
          elim (subst (λ z. Meets from (DataWanted heading form seen) z ahead left)
          (read_data wide core heading form seen bytes e) meets) [
            | inl (early, kept) ↦ unread (λ m. let z = sym is ∙ m in cc z) early kept
            | inr (late, (parts, c, q)) ↦ read bytes is late parts c q
          ]

    by_goes : (heading : Heading) (form : FileForm) (seen : ℕ)
        → core.phase ≡ DataWanted heading form seen → Skipping xs core form seen ahead
        → Meets from (DataWanted heading form seen) (read_as wide core x) ahead left
        → Goes core heading form seen x (step_by wide core (Some x))
        → Held (xs ++ x ∷ []) new new.phase left
    by_goes heading form seen e h meets (skips lt off is there same) =
        let n : block_of core.position ≡ block_of p = ap block_of h.at in
        subst (λ z. Held (xs ++ x ∷ []) new z left) (sym there)
        (skipped heading form seen e h (omega (arith, lt, n)) same x refl off meets)
    by_goes heading form seen e h meets (delivers bytes is le told there moved) =
        absurd (let z = sym told ∙ passed in cc z)
    by_goes heading form seen e h meets (closes is le told there same) =
        subst (λ z. Held (xs ++ x ∷ []) new z left) (sym there) (same ∙ h.at)

    by_phase : (phase : Phase) → core.phase ≡ phase → Held xs core phase ahead
        → Meets from phase (read_as wide core x) ahead left → Held (xs ++ x ∷ []) new new.phase left
    by_phase (DataWanted heading form seen) e h meets =
        by_goes heading form seen e h meets
        ((data_steps wide core heading form seen x (λ f. waits (sym h.at ∙ f)) e).goes (inl passed))
    by_phase (TrailerWanted heading form) e at meets =
        absurd (ends_there core heading form x (subst (λ z. GoesOn (at_item core z x).0) e
        (unless_goes core core.position (at_item core core.phase x)
        (λ f. waits (sym at ∙ f)) (subst (λ (out : Outcome). GoesOn out.0)
        (by_table wide core heading form x e) (inl passed)))))
    by_phase _ e (at, same) meets =
        let opens = (step_opens wide core x (λ f. waits (sym at ∙ f))
        (subst IsOutside (sym e) tt)).goes (inl passed) in
        elim opens.2 [
          | inl out ↦ outside (xs ++ x ∷ []) new new.phase left out (opens.1 ∙ at) (meets ∙ same)
          | inr (is, (heading, form, there)) ↦
              subst (λ z. Held (xs ++ x ∷ []) new z left) (sym there) (record {
                front = xs;
                passed = [];
                texts = [];
                all = ap (λ z. xs ++ (z ∷ [])) is;
                no_mark = tt;
                sum = refl;
                few = omega arith;
                full = inr refl;
                fits = meets ∙ same;
                at = opens.1 ∙ at;
                most = omega arith;
              })
        ]

  pub all_met : (its : List TapeItem) (core : State) (xs : List TapeItem) (ahead left : List Portion)
      → Held xs core core.phase ahead → MeetAll wide from core its ahead left
      → Held (xs ++ its) (behind_items wide core its) (behind_items wide core its).phase left
  all_met [] core xs ahead left h same =
      subst (λ z. Held z core core.phase left) (sym (append-nil xs))
      (subst (λ z. Held xs core core.phase z) (sym same) h)
  all_met (x ∷ its) core xs ahead left h (passed, mid, meets, all) =
      let new = (step_by wide core (Some x)).1 in
      subst (λ z. Held z (behind_items wide new its) (behind_items wide new its).phase left)
      (append_assoc xs (x ∷ []) its)
      (all_met its new (xs ++ x ∷ []) mid left
      (by_phase core xs x ahead mid passed core.phase refl h meets) all)
