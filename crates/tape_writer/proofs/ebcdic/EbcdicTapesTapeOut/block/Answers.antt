use Rattle.tape_writer.proofs.Words.{sym}
use Rattle.tape_writer.proofs.{Recoded.block_coded}
use Rattle.tape_writer.proofs.ebcdic.EbcdicTapesTapeOut.block.Goals as goal

pub returns-in-Some-clause-ok : goal.returns-in-Some-clause-ok
returns-in-Some-clause-ok g c =
    block_coded (g.T.TapeOut.holds c.args.self.now.out) (g.T.TapeOut.holds c.block.new.self)
    c.args.self.now.part c.args.bytes.now _ _ c.in-Some.ensures.some c.block.ensures.ok

pub returns-in-None-clause-ok : goal.returns-in-None-clause-ok
returns-in-None-clause-ok g c =
    block_coded (g.T.TapeOut.holds c.args.self.now.out) (g.T.TapeOut.holds c.block-in-None.new.self)
    c.args.self.now.part c.args.bytes.now _ _ (sym (c.in_ebcdic.ensures.none c.in-None.is))
    c.block-in-None.ensures.ok
