use Rattle.std.proofs.Common.{length}
use Rattle.std.specs.List.{AllByRecursion}
use Rattle.tape_run.specs.Origins.{IsSource, Follow}
use Rattle.tape_run.proofs.Origins.{HaveSources}
use Rattle.tape_run.proofs.unpack.origin.runs_of.Given as goal

abbrev pub invariant-openings : goal.invariant-openings
invariant-openings l = record {
  later : HaveSources l.fn.openings l.end l.rest;
  follow : Follow l.end l.fn.end l.runs.items;
  sources : AllByRecursion (IsSource l.fn.openings) l.runs.items;
}

abbrev pub decreases-openings : goal.decreases-openings
decreases-openings l = length l.rest
