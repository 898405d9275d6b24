use Rattle.std.proofs.Common.{◌≡◌, ◌-◌, ◌≤◌}
use Rattle.tape_image.specs.{Begins.image_limit, Reader.going}
use Rattle.tape_run.proofs.session.compared.overlap.measure.Given as goal

abbrev pub invariant-items : goal.invariant-items
invariant-items g l = record {
  on : l.image.status ≡ going;
  limit : l.image.place ≤ image_limit;
  same_device : l.image.device ≡ l.fn.image.device;
}

abbrev pub decreases-items : goal.decreases-items
decreases-items g l = image_limit - l.image.place
