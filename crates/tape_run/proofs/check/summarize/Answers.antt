use Rattle.std.proofs.Common.{◌≡◌, ◌++◌, map, ap, rules}
use Rattle.std.proofs.KnownBytes.{Appends-trans}
use Rattle.std.specs.{List.flat_map}
use Rattle.tape_image.proofs.Pieces.{on_err, front_more, front_behind}
use Rattle.tape_run.specs.{CheckLine.section_line, CheckLine.lack_line, Lacks.line_of, Lacks.lacks}
use Rattle.tape_run.specs.Checked.{last_line}
use Rattle.tape_run.proofs.Reporting.{text_front, text_more, texts_done}
use Rattle.tape_run.proofs.check.summarize.Goals.{then-found, else-found}
use Rattle.tape_run.proofs.check.summarize.Goals as goal

pub loop-key-preserved : goal.loop-key-preserved
loop-key-preserved g c =
    text_more section_line _ _ _ _ _ _ _ _ c.loop-key.invariant
    (ap (map line_of) c.in-Some.ensures.steps) (search rules) c.in_ok-write_line.ensures.ok

pub returns-in_err-write_line-clause-front : goal.returns-in_err-write_line-clause-front
returns-in_err-write_line-clause-front g c =
    on_err _ _ (front_more _ _ _ _ (front_more _ _ _ _ (text_front section_line _ _ _ _ _ _ _ _
    c.loop-key.invariant (ap (map line_of) c.in-Some.ensures.steps) (search rules)
    c.in_err-write_line.ensures.err)))

pub returns-in_err-write_lacks-clause-front : goal.returns-in_err-write_lacks-clause-front
returns-in_err-write_lacks-clause-front g c =
    on_err _ _ (front_more _ _ _ _ (front_behind _ _ _ _ _ (texts_done section_line _ _ _ _
    c.loop-key.invariant (ap (map line_of) c.in-None.ensures.steps.0))
    (rw c.in_ok-sets.ensures at c.in_err-write_lacks.ensures.front)))

pub returns-in_err-pass_on-clause-front : goal.returns-in_err-pass_on-clause-front
returns-in_err-pass_on-clause-front g c =
    let d = c.args.sections.now.entries in
    let last : c.if-found.last.now ≡ last_line c.found_all-found.result =
    elim c.if-found.branch [ then-found w ↦ search rules | else-found w ↦ search rules ] in
    on_err _ _ (front_behind _ _ _ _ _ (Appends-trans _ _ _ (flat_map section_line (map line_of d))
    (flat_map lack_line (lacks d)) (texts_done section_line _ _ _ _ c.loop-key.invariant
    (ap (map line_of) c.in-None.ensures.steps.0))
    (rw c.in_ok-sets.ensures at c.in_ok-write_lacks.ensures.ok))
    (rw (last, c.found_all-found.ensures) at c.in_err-pass_on.ensures.err))

pub returns-clause-ok : goal.returns-clause-ok
returns-clause-ok g c =
    let d = c.args.sections.now.entries in
    let sections = flat_map section_line (map line_of d) in
    let lacking = flat_map lack_line (lacks d) in
    let last : c.if-found.last.now ≡ last_line c.found_all-found.result =
    elim c.if-found.branch [ then-found w ↦ search rules | else-found w ↦ search rules ] in
    let listed = texts_done section_line _ _ _ _ c.loop-key.invariant
    (ap (map line_of) c.in-None.ensures.steps.0) in (
      c.found_all-found.ensures,
      Appends-trans _ _ _ (sections ++ lacking) _
          (Appends-trans _ _ _ sections lacking listed
          (rw c.in_ok-sets.ensures at c.in_ok-write_lacks.ensures.ok))
          (rw (last, c.found_all-found.ensures) at c.in_ok-pass_on.ensures.ok),
    )
