use Rattle.std.proofs.Common.{◌≡◌, ◌+◌, ◌++◌}
use Rattle.tape_run.specs.Origins.{runs_from}
use Rattle.tape_run.proofs.unpack.FoundFiles.runs_from.Given as goal

abbrev pub invariant-sections : goal.invariant-sections
invariant-sections l = record {
  most : l.sect + l.left ≡ l.fn.from + l.fn.most;
  goes_on : l.runs.items ++ runs_from l.fn.self.locations.entries l.fn.self.sections.entries
      l.fn.set_id l.fn.file l.sect l.left
      ≡ runs_from l.fn.self.locations.entries l.fn.self.sections.entries
      l.fn.set_id l.fn.file l.fn.from l.fn.most;
}

abbrev pub decreases-sections : goal.decreases-sections
decreases-sections l = l.left
