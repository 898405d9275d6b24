use Rattle.std.proofs.Common.{◌≡◌, ◌-◌, ◌*◌, ◌≤◌, List}
use Rattle.tape_blocks.specs.Block.{Portion}
use Rattle.tape_image.specs.{Begins.image_limit, Reader.going, Reader.IfKnown}
use Rattle.tape_core.specs.{Crash.AddsNothing, Weight.IsFront}
use Rattle.tape_run.proofs.{Images.SoFar, Reels.ReadsSoFar}
use Rattle.tape_run.proofs.reel_reader.ReelReader.read.Given as goal

abbrev pub invariant-items : goal.invariant-items
invariant-items g l = record {
  on : l.image.status ≡ going;
  limit : l.image.place ≤ image_limit;
  few : l.blocks * 4 ≤ l.image.place;
  same_device : l.image.device ≡ l.fn.image.device;
  file : l.self.core.file ≡ l.fn.self.core.file;
  wide : l.self.wide ≡ l.fn.self.wide;
  set_id : l.self.core.set_id ≡ l.fn.self.core.set_id;
  calm : g.S.PartSink.refusals l.self.sink ≡ g.S.PartSink.refusals l.fn.self.sink;
  answers : IfKnown l.fn.image.left l.image.left
      (ReadsSoFar l.fn.self.wide l.fn.self.core l.self.core l.blocks l.image.place);
  crash : (held : List Portion) → g.S.PartSink.holds l.fn.self.sink held
      → AddsNothing (g.S.PartSink.crashes l.fn.self.sink) (g.S.PartSink.crashes l.self.sink);
  so_far : (held : List Portion) → g.S.PartSink.holds l.fn.self.sink held
      → (now : List Portion) × g.S.PartSink.holds l.self.sink now × IsFront held now
      × IfKnown l.fn.image.left l.image.left (SoFar l.fn.self.wide l.fn.self.core
      l.self.core held
      now l.image.place);
}

abbrev pub decreases-items : goal.decreases-items
decreases-items g l = image_limit - l.image.place
