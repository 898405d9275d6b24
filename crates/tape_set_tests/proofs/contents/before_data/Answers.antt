use Rattle.std.proofs.Common.{arith}
use Rattle.tape_set_tests.proofs.ContentsLaws.{data_before}
use Rattle.tape_set_tests.proofs.contents.before_data.Goals as goal

pub returns : goal.returns
returns c =
    grind (
      arith,
      c.in_ok-put_sections.ensures c.args.file,
      data_before c.args.layout.now c.args.file c.args.sect c.args.own.now c.args.section.now
          c.requires.own c.requires.section,
    )
