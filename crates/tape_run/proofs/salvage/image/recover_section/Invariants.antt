use Rattle.std.proofs.Common.{◌≡◌, ◌-◌, ◌≤◌}
use Rattle.tape_image.specs.{Begins.image_limit, Reader.going}
use Rattle.tape_run.specs.SalvageImage.{closings}
use Rattle.tape_run.proofs.SalvagedSoFar.{SoFar}
use Rattle.tape_run.proofs.salvage.image.recover_section.Given as goal

abbrev pub invariant-items : goal.invariant-items
invariant-items g l = record {
  on : l.image.status ≡ going;
  limit : l.image.place ≤ image_limit;
  same_device : l.image.device ≡ l.fn.image.device;
  so_far : SoFar g.W.Write.contents l.fn.image.left l.image.left l.image.place l.fn.start l.key
      l.most l.form l.expected l.fn.recovery l.recovery (g.P.Write.contents l.fn.report)
      (g.P.Write.contents l.report);
  unended : closings l.key l.fn.start so_far.items ≡ 0;
}

abbrev pub decreases-items : goal.decreases-items
decreases-items g l = image_limit - l.image.place
