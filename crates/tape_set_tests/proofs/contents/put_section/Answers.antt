use Rattle.std.proofs.Common.{arith}
use Rattle.tape_set.specs.Layout.{header_group, data_group, trailer_group}
use Rattle.tape_set_tests.specs.Contents.{entries_told}
use Rattle.tape_set_tests.proofs.ContentsLaws.{section_put}
use Rattle.tape_set_tests.proofs.contents.put_section.Goals as goal

pub returns : goal.returns
returns c = grind (
  arith,
  section_put (entries_told c.args.entries.now.items) (header_group c.args.section.now)
      (data_group c.args.section.now.blocks) (trailer_group c.args.section.now),
)
