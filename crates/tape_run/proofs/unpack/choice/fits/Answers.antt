use Rattle.std.proofs.Common.{◌≡◌, ◌≢◌, []}
use Rattle.tape_run.proofs.Patterns.{tried_none, tried_star, tried_plain, tried_later, fits_no_more}
use Rattle.tape_run.proofs.Patterns.{fits_not, smaller_star, some_left}
use Rattle.tape_run.proofs.unpack.choice.fits.Goals as goal
use Rattle.tape_run.proofs.unpack.choice.fits.Goals.{
  else-is_empty-via-then-is_empty+else-is_empty-2,
}
use Rattle.tape_run.proofs.unpack.choice.fits.Goals.{else-is_empty-via-else-is_empty}

pub characters-init : goal.characters-init
characters-init c = tried_none _ _

pub characters-smaller-in-Some : goal.characters-smaller-in-Some
characters-smaller-in-Some c =
    smaller_star _ _ _ _ _ _ _ c.in-Some.ensures.some c.characters.invariant

pub characters-preserved-in-Some : goal.characters-preserved-in-Some
characters-preserved-in-Some c =
    tried_star _ _ _ _ _ _ _ c.in-Some.ensures.some c.characters.invariant

pub characters-preserved-in-Some-after_same : goal.characters-preserved-in-Some-after_same
characters-preserved-in-Some-after_same c =
    let (d, a, b) = c.in-Some-after_same.ensures.some in
    tried_plain _ _ _ _ _ _ _ _ d a b c.in_default.ensures.none c.characters.invariant

pub characters-preserved : goal.characters-preserved
characters-preserved c =
    let some = elim c.else-is_empty.branch
    as (λ _. (c.characters.left.now ≡ [] → c.characters.rest.now ≢ [])) [
      | else-is_empty-via-then-is_empty+else-is_empty-2 w ↦
          λ _. some_left _ _ w.is_empty-then-is_empty.ensures w.if-is_empty-2.false
      | else-is_empty-via-else-is_empty w ↦
          λ none. absurd (some_left _ _ c.is_empty.ensures w.if-is_empty.false none)
    ] in
    let not = fits_not _ _ c.in_default.ensures.none c.in_default-after_same.ensures.none some in
    tried_later _ _ _ _ _ _ _ _ c.in-Some-split_first.ensures.cases.0 not c.characters.invariant

pub returns-in_default-split_first : goal.returns-in_default-split_first
returns-in_default-split_first c =
    let some = elim c.else-is_empty.branch
    as (λ _. (c.characters.left.now ≡ [] → c.characters.rest.now ≢ [])) [
      | else-is_empty-via-then-is_empty+else-is_empty-2 w ↦
          λ _. some_left _ _ w.is_empty-then-is_empty.ensures w.if-is_empty-2.false
      | else-is_empty-via-else-is_empty w ↦
          λ none. absurd (some_left _ _ c.is_empty.ensures w.if-is_empty.false none)
    ] in
    let not = fits_not _ _ c.in_default.ensures.none c.in_default-after_same.ensures.none some in
    let none = c.in_default-split_first.ensures.cases in
    (λ e. absurd cc, λ f. absurd (fits_no_more _ _ _ _ _ _ none not c.characters.invariant f))
