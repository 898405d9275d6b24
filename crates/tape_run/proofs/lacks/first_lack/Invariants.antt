use Rattle.std.proofs.Common.{◌≡◌, ◌+◌}
use Rattle.tape_run.specs.Lacks.{first_lack}
use Rattle.tape_run.proofs.lacks.first_lack.Given as goal

abbrev pub invariant-sections : goal.invariant-sections
invariant-sections l = record {
  most : l.sect + l.left ≡ l.fn.from + l.fn.most;
  goes_on : first_lack l.fn.sections.entries l.fn.set_id l.fn.file l.fn.from l.fn.most
      ≡ first_lack l.fn.sections.entries l.fn.set_id l.fn.file l.sect l.left;
}

abbrev pub decreases-sections : goal.decreases-sections
decreases-sections l = l.left
