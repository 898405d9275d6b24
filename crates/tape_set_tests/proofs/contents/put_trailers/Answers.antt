use Rattle.std.proofs.Common.{arith}
use Rattle.tape_set_tests.specs.Contents.{entries_told}
use Rattle.tape_set_tests.proofs.ContentsLaws.{trailers_put}
use Rattle.tape_set_tests.proofs.contents.put_trailers.Goals as goal

pub returns : goal.returns
returns c = grind (arith, trailers_put (entries_told c.args.entries.now.items) c.args.section.now)
