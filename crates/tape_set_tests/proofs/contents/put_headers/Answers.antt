use Rattle.std.proofs.Common.{arith}
use Rattle.tape_set_tests.specs.Contents.{entries_told}
use Rattle.tape_set_tests.proofs.ContentsLaws.{headers_put}
use Rattle.tape_set_tests.proofs.contents.put_headers.Goals as goal

pub returns : goal.returns
returns c = grind (arith, headers_put (entries_told c.args.entries.now.items) c.args.section.now)
