use Rattle.std.proofs.Common.{◌≡◌, ◌-◌, ◌≤◌}
use Rattle.tape_image.specs.{Begins.image_limit, Reader.going, Reader.IfKnown}
use Rattle.tape_run.proofs.{ComparedItems.MetSoFar, Walked.Walked}
use Rattle.tape_run.proofs.session.compared.overlap.compare_all.Given as goal

abbrev pub invariant-items : goal.invariant-items
invariant-items g l = record {
  on : l.image.status ≡ going;
  limit : l.image.place ≤ image_limit;
  same_device : l.image.device ≡ l.fn.image.device;
  walked : Walked g.S.PartSink l.fn.sink l.sink;
  met : IfKnown l.fn.image.left l.image.left (MetSoFar l.fn.wide l.fn.overlap.from l.fn.core
      l.core l.image.place (g.S.PartWalk.ahead l.fn.sink) (g.S.PartWalk.ahead l.sink));
}

abbrev pub decreases-items : goal.decreases-items
decreases-items g l = image_limit - l.image.place
