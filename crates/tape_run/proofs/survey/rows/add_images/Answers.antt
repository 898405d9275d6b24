use Rattle.std.proofs.Common.{◌≡◌, ◌<◌, ◌+◌, ◌++◌, ◌∷◌, ◌∙◌, ap, sym, map, [], length, get_or, drop}
use Rattle.std.proofs.Common.{arith, append_assoc}
use Rattle.std.proofs.lemmas.List.{length-map, get_or-map, at_drop_more}
use Rattle.tape_run.specs.SurveyRows.{image_rows}
use Rattle.tape_run.proofs.survey.rows.add_images.Goals as goal

pub loop-number-preserved : goal.loop-number-preserved
loop-number-preserved c =
    let names = map (λ x. x.now) c.args.names.now in
    let sights = c.args.sights.now in
    let texts = image_rows c.args.copies.now in
    let n = c.loop-number.number in
    let within : n < length c.args.names.now = omega (arith, c.loop-number-test.true) in
    let each : length names ≡ length c.args.names.now = length-map _ (λ x. x.now) in
    let named : n < length names = omega (arith, each, within) in
    let there : n < length sights = omega (arith, within, c.requires) in
    let name : (get_or c.args.names.now n (record { ref_ptr = (0, 0); now = [] })).now
    ≡ get_or names n [] = sym (get_or-map (λ x. x.now) c.args.names.now n _ [] within) in
    rw (
      c.in_ok-extend_from_slice.ensures.items,
      c.as_slice.ensures.value,
      c.in_ok-row.ensures,
      append_assoc,
      name,
      c.index-sights-number.is,
      c.disputed_on-dispute.ensures,
    )
    (ap (λ ls. c.loop-number.rows.items ++ ls)
    (sym (at_drop_more (λ ns. texts n ns (drop n sights)) names n [] named
    ∙ at_drop_more (texts n (get_or names n [] ∷ drop (n + 1) names)) sights n _ there))
    ∙ c.loop-number.invariant)
