use Rattle.std.proofs.Common.{◌≡◌, ℕ, ◌-◌, ◌∙◌, ap, sym, List, length, take, drop, false, true}
use Rattle.std.proofs.Common.{arith, length-drop}
use lib.Seq.{take_all}
use Rattle.tape_image.specs.Resync.{begins_again, found, place_from}
use Rattle.tape_image.proofs.Resyncs.{next_place, this_place}
use Rattle.tape_image.proofs.resync.place.found.Goals as goal

-- the bytes from a place on are all that are left
all_from : (xs : List ℕ) (at : ℕ) → take (length xs - at) (drop at xs) ≡ drop at xs
all_from xs at = take_all (length xs - at) (drop at xs) (omega (arith, length-drop at xs))

pub returns-then-begins_again : goal.returns-then-begins_again
returns-then-begins_again c =
    let xs = c.args.front.now in
    let at = c.places.at in
    let end = c.min-end.result in
    let before : found xs ≡ place_from at (end - at) xs = c.places.invariant in
    let here : begins_again (drop at xs) ≡ true =
    ap begins_again (sym (all_from xs at)) ∙ sym c.begins_again.ensures
    ∙ c.if-begins_again.true in
    sym (before ∙ this_place at end xs c.places-test.true here)

pub places-preserved : goal.places-preserved
places-preserved c =
    let xs = c.args.front.now in
    let at = c.places.at in
    let end = c.min-end.result in
    let before : found xs ≡ place_from at (end - at) xs = c.places.invariant in
    let here : begins_again (drop at xs) ≡ false =
    ap begins_again (sym (all_from xs at)) ∙ sym c.begins_again.ensures
    ∙ c.if-begins_again.false in
    before ∙ next_place at end xs c.places-test.true here
