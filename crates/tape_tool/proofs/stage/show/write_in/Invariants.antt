use Rattle.std.proofs.Common.{◌≡◌, ◌-◌, List, length}
use Rattle.tape_blocks.specs.{Block.Portion, Spans.join}
use Rattle.tape_stage.specs.{OnlyReading.OnlyReads, Stages.Holds, Stages.IsAhead}
use Rattle.tape_run.proofs.Streams.{Streams}
use Rattle.tape_tool.proofs.stage.show.write_in.Given as goal

abbrev pub invariant-parts : goal.invariant-parts
invariant-parts g l = record {
  reads : OnlyReads g.D.Disk l.fn.stage.disk l.stage.disk;
  honest : g.D.Disk.is_honest l.fn.stage.disk → g.D.Disk.is_honest l.stage.disk;
  calm : g.D.Disk.faults l.stage.disk ≡ g.D.Disk.faults l.fn.stage.disk;
  readable : l.stage.readable ≡ l.fn.stage.readable;
  text : (parts : List Portion) → Holds l.fn.stage parts → l.records ≡ length (join parts).records
      → Streams l.form (λ ps. IsAhead l.stage ps) 0 l.ended l.held.items
      (g.W.Write.contents l.fn.out) (g.W.Write.contents l.out) parts;
}

abbrev pub decreases-parts : goal.decreases-parts
decreases-parts g l = l.stage.weight - l.stage.walked
