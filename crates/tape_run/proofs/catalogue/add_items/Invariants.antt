use Rattle.std.proofs.Common.{◌≡◌, ◌-◌, ◌*◌, ◌≤◌}
use Rattle.tape_image.specs.{Begins.image_limit, Reader.going}
use Rattle.tape_run.specs.Passing.{blocks_of}
use Rattle.tape_run.proofs.NotedSoFar.{SoFar}
use Rattle.tape_run.proofs.catalogue.add_items.Given as goal

abbrev pub invariant-items : goal.invariant-items
invariant-items g l = record {
  on : l.image.status ≡ going;
  limit : l.image.place ≤ image_limit;
  few : l.items * 4 ≤ l.image.place;
  blocks : blocks_of l.phase ≤ l.items;
  same_device : l.image.device ≡ l.fn.image.device;
  so_far : SoFar l.fn.image.left l.image.left l.image.place l.items l.fn.sections.entries l.phase
      l.sections.entries;
}

abbrev pub decreases-items : goal.decreases-items
decreases-items g l = image_limit - l.image.place
