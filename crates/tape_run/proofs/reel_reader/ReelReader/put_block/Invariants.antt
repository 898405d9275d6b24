use Rattle.std.proofs.Common.{◌≡◌, map}
use Rattle.tape_blocks.specs.Parts.{view}
use Rattle.tape_run.proofs.Blocks.{PutSoFar}
use Rattle.tape_run.proofs.reel_reader.ReelReader.put_block.Given as goal

abbrev pub invariant-loop-part : goal.invariant-loop-part
invariant-loop-part g l = record {
  core : l.self.core ≡ l.fn.self.core;
  wide : l.self.wide ≡ l.fn.self.wide;
  puts : PutSoFar g.S.PartSink l.fn.self.sink l.self.sink l.first l.seen l.awaited.begun l.begun
      (map view l.yielded);
}
