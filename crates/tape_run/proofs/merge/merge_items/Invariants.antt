use Rattle.std.proofs.Common.{◌≡◌, ◌-◌, ◌*◌, ◌≤◌}
use Rattle.tape_image.specs.{Begins.image_limit, Writer.writing}
use Rattle.tape_run.specs.Passing.{blocks_of}
use Rattle.tape_run.proofs.MergeLoops.{SoFar}
use Rattle.tape_run.proofs.merge.merge_items.Given as goal

abbrev pub invariant-items : goal.invariant-items
invariant-items g l = record {
  so_far : SoFar l.fn.readings l.readings l.merged l.phase l.fn.out l.out
      (g.G.Write.contents l.fn.log) (g.G.Write.contents l.log);
  stands : l.out.standing ≡ writing;
  few : l.merged.items * 4 ≤ l.out.size;
  limit : l.merged.items * 4 ≤ image_limit;
  blocks : blocks_of l.phase ≤ l.merged.items;
  bad : l.merged.bad ≤ l.merged.items;
  alone : l.merged.alone ≤ l.merged.items;
  miscounted : l.merged.miscounted ≤ l.merged.items;
}

abbrev pub decreases-items : goal.decreases-items
decreases-items g l = image_limit - l.out.size
