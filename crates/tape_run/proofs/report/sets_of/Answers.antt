use Rattle.std.proofs.Common.{◌≡◌, ◌∙◌, ap, rules}
use Rattle.std.specs.{Map.lookup, Str.bytes_eq}
use Rattle.indexmap.specs.IndexMap.{insert_entry}
use Rattle.tape_run.specs.Lacks.{greatest}
use Rattle.tape_run.proofs.Listing.{put_file}
use Rattle.tape_run.proofs.report.sets_of.Goals.{in-Some-get, in-None-get}
use Rattle.tape_run.proofs.report.sets_of.Goals as goal

pub loop-key-preserved : goal.loop-key-preserved
loop-key-preserved c =
    let sets = c.loop-key.sets.entries in
    let key = c.in-Some.key.now in
    let is : c.match-get.greatest ≡ greatest (lookup (bytes_eq key.set_id) sets) key.file =
    elim c.match-get.branch [
      | in-Some-get w ↦ search rules
      | in-None-get w ↦ search rules
    ] in
    let noted = c.in_ok-insert.ensures.entries ∙ ap (insert_entry bytes_eq sets key.set_id) is
    ∙ put_file sets key.set_id key.file in
    rw noted (rw c.in-Some.ensures.steps at c.loop-key.invariant)
