use Rattle.std.proofs.Common.{rules}
use Rattle.tape_stage.specs.OnlyReading.{Looks}
use Rattle.tape_stage.proofs.HoldingLaws.{reads_elapse}
use Rattle.tape_stage.proofs.disk.buffered.Buffered.look.Goals.{After-read}
use Rattle.tape_stage.proofs.disk.buffered.Buffered.look.Given.{Over}
use Rattle.tape_stage.proofs.disk.buffered.Buffered.look.Goals as goal

looks : (g : Over) (c : After-read g) → Looks g.D.Disk c.args.self.now.disk c.read.new.self
looks g c = let ahead = c.look_ahead.ensures.looks in record {
  same_length = search rules;
  same = search rules;
  crash = search rules;
  time = λ honest. reads_elapse (ahead.time honest)
      (c.read.ensures.time (ahead.honest.onward honest)) (ahead.crash honest)
      (λ t x. g.met.D.Disk.counts_now _ t x honest);
  honest = search rules;
}

pub returns-in-Ok-clause-looks : goal.returns-in-Ok-clause-looks
returns-in-Ok-clause-looks g c = looks g (goal.at.returns-in-Ok-clause-looks g c).After-read

pub returns-in-Err-clause-looks : goal.returns-in-Err-clause-looks
returns-in-Err-clause-looks g c = looks g (goal.at.returns-in-Err-clause-looks g c).After-read
