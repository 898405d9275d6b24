use Rattle.std.proofs.Common.{◌≡◌, arith, ◌∙◌, Ok, Some, ap, rules}
use Rattle.tape_image.specs.Reader.{tape_item}
use Rattle.tape_run.specs.MergeSteps.{block_length, is_bad_one, one_if}
use Rattle.tape_run.proofs.MergeNext.{asked_item}
use Rattle.tape_run.proofs.merge.reading.ask.Goals.{in-Block, in-Mark, in-Bad}
use Rattle.tape_run.proofs.merge.reading.ask.Goals as goal

pub returns-clause-asked : goal.returns-clause-asked
returns-clause-asked g c =
    let item = tape_item c.in-Ok-Some.item in
    let len : c.match-item.length.0 ≡ block_length item = elim c.match-item.branch [
      | in-Block w ↦ search rules
      | in-Mark w ↦ search rules
      | in-Bad w ↦ search rules
    ] in
    let bad : c.match-item.length.1 ≡ one_if (is_bad_one (Some item)) =
    elim c.match-item.branch [
      | in-Block w ↦ search rules
      | in-Mark w ↦ search rules
      | in-Bad w ↦ search rules
    ] in
    asked_item _ _ c.next.result c.in-Ok-Some.item _ _ _ _
    c.next.follows.holds-at-none (c.in-Ok-Some.is ∙ ap Ok c.in-Ok-Some.field-0-is)
    c.in_ok-reading.ensures (record {
      items = λ le. omega (arith, le, c.saturating_add-reading.ensures);
      bad = λ le. omega (arith, le, bad, c.saturating_add-reading-2.ensures);
      from = c.place-from.ensures;
      len = len;
    })
