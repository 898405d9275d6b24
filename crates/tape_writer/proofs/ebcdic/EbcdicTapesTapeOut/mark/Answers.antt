use Rattle.tape_writer.proofs.Words.{map, mark}
use Rattle.tape_writer.proofs.{Recoded.one_more}
use Rattle.tape_writer.specs.Coded.{coded}
use Rattle.tape_writer.proofs.ebcdic.EbcdicTapesTapeOut.mark.Goals as goal

pub returns-clause-ok : goal.returns-clause-ok
returns-clause-ok g c = λ volumes items held.
    one_more (g.T.TapeOut.holds c.mark.new.self) c.args.self.now.part c.next-self.result mark volumes
    items held.1 c.next-self.ensures
    (c.in_ok-mark.ensures.ok (map coded volumes) (coded items) held.0)
