use Rattle.std.proofs.Common.{map}
use Rattle.tape_run.specs.{CheckLine.section_line, Lacks.line_of}
use Rattle.tape_run.proofs.Reporting.{TextsSoFar}
use Rattle.tape_run.proofs.check.summarize.Given as goal

abbrev pub invariant-loop-key : goal.invariant-loop-key
invariant-loop-key g l = TextsSoFar section_line (map line_of l.sections.entries)
    (map line_of l.key-iterator) (g.P.Write.contents l.fn.report) (g.P.Write.contents l.report)
