use Rattle.std.proofs.Common.{◌≡◌, ◌++◌, ap, ◌∙◌, Some, rules}
use Rattle.tape_run.specs.Unpacking.{file_by}
use Rattle.tape_run.specs.SurveyFiles.{note_at, file_key}
use Rattle.tape_run.proofs.unpack.add_file.Goals as goal

-- src/unpack.rt:179:1
pub returns : goal.returns
returns c =
    let key = file_key c.args.set_id c.args.file in
    let seen : Some c.in-Some.note.now ≡ note_at c.args.findings.now.files key =
    search rules in
    c.in_ok-push.ensures.items
    ∙ ap (λ l. c.args.files.now.items ++ l) (c.set_file.ensures
    ∙ ap (λ n. file_by c.args.findings.now c.args.set_id c.args.file n) seen)
