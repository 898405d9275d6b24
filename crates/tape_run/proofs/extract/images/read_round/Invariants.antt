use Rattle.std.proofs.Common.{◌≡◌, ◌+◌, List, map, length}
use Rattle.std.specs.Io.KnownBytes.{Appends}
use Rattle.tape_run.specs.{Causes.IsCalm, ReelLine.reel_lines}
use Rattle.tape_run.specs.Reeling.{Turn, answer_of, AreTurns, Follows, Carries}
use Rattle.tape_run.proofs.extract.images.read_round.Given as goal

abbrev pub invariant-loop-number : goal.invariant-loop-number
invariant-loop-number g l = (turns : List Turn) × (length turns ≡ l.number)
    × AreTurns g.L.ImageSource.gives g.R.Read.remaining l.fn.images 0 turns l.images
    × Appends (g.P.Write.contents l.fn.report) (g.P.Write.contents l.report) (reel_lines
    (l.lines + 1) (map answer_of turns))
    × (l.number ≡ 0 → l.session ≡ l.fn.session)
    × Carries g.S.PartSink l.fn.back l.fn.session l.session
    (λ was is. Follows l.fn.back l.spares l.fn.session.core was turns l.session.core is)
    × IsCalm g.S.PartSink l.fn.session l.session
