use Rattle.tape_run.proofs.SalvageTaking.{TakenSoFar}
use Rattle.tape_run.proofs.salvage.sections.recover_sections.Given as goal

abbrev pub invariant-loop-before : goal.invariant-loop-before
invariant-loop-before g l = TakenSoFar g.W.Write.contents g.L.ImageSource.gives g.R.Read.remaining
    l.copies l.content l.form l.before l.end l.fn.images l.images l.fn.recovery l.recovery
    (g.P.Write.contents l.fn.report) (g.P.Write.contents l.report)
