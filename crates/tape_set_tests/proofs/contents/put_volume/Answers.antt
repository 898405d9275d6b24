use Rattle.std.proofs.Common.{[], ◌∷◌, arith}
use Rattle.tape_set.specs.Layout.{volume_group, all_entries, on, all_numbered, a_mark}
use Rattle.tape_set_tests.specs.Contents.{entries_told}
use Rattle.tape_set_tests.proofs.ContentsLaws.{section_put}
use Rattle.tape_set_tests.proofs.contents.put_volume.Goals as goal

pub returns : goal.returns
returns c = grind (
  arith,
  section_put (entries_told c.args.entries.now.items) (volume_group c.args.labels.now)
      (all_entries (on c.args.volume (all_numbered 1 c.args.files.now))) (a_mark ∷ []),
)
