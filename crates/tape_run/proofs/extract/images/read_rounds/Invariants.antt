use Rattle.std.proofs.Common.{◌≡◌, ◌+◌, ◌-◌, ◌≤◌, List, length}
use Rattle.tape_run.specs.{Causes.IsCalm, Rounds.Round, Rounds.turns_of, Rounds.HasGone}
use Rattle.tape_run.proofs.extract.images.read_rounds.Given as goal

abbrev pub invariant-rounds : goal.invariant-rounds
invariant-rounds g l = (rounds : List Round) × (l.lines ≡ length (turns_of rounds))
    × (l.lines + l.count ≤ 18446744073709551615) × HasGone g.S.PartSink
    l.count g.L.ImageSource.gives g.R.Read.remaining l.fn.back l.fn.again l.fn.session l.session
    l.fn.images l.images (g.P.Write.contents l.fn.report) (g.P.Write.contents l.report) rounds
    × IsCalm g.S.PartSink l.fn.session l.session

abbrev pub decreases-rounds : goal.decreases-rounds
decreases-rounds g l = 18446744073709551615 - l.lines
