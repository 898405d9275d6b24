use Rattle.std.proofs.Common.{◌≡◌, ◌-◌, ◌*◌, ◌≤◌}
use Rattle.tape_image.specs.{Begins.image_limit, Reader.going}
use Rattle.tape_run.specs.Passing.{blocks_of}
use Rattle.tape_run.proofs.SurveyLooks.{LookedSoFar}
use Rattle.tape_run.proofs.survey.view.view_items.Given as goal

abbrev pub invariant-items : goal.invariant-items
invariant-items g l = record {
  on : l.image.status ≡ going;
  limit : l.image.place ≤ image_limit;
  few : l.glance.items * 4 ≤ l.image.place;
  files : l.glance.files ≤ l.glance.items;
  bad : l.glance.bad ≤ l.glance.items;
  blocks : blocks_of l.phase ≤ l.glance.items;
  same_device : l.image.device ≡ l.fn.image.device;
  looked : LookedSoFar l.fn.image.left l.image.left l.image.place l.number
      l.fn.sections.entries
      l.fn.files l.fn.locations.entries l.fn.copies l.phase l.glance l.digest
      l.sections.entries l.files l.locations.entries l.copies l.damaged.items;
}

abbrev pub decreases-items : goal.decreases-items
decreases-items g l = image_limit - l.image.place
