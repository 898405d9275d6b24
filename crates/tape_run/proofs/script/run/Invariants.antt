use Rattle.std.proofs.Common.{◌≡◌, Bool, List, length, map, take, drop}
use Rattle.tape_blocks.specs.Block.{Portion}
use Rattle.tape_run.specs.{Causes.IsCalm, Given.written, Headline.reels_in, Seen.seen, Seen.IsKept}
use Rattle.tape_run.proofs.RunSoFar.{HasCome}
use Rattle.tape_run.proofs.script.run.Given as goal

abbrev pub invariant-loop-step : goal.invariant-loop-step
invariant-loop-step g l = (which : List Bool) × (length which ≡ l.used)
    × (l.failed ≡ written which l.fn.failed)
    × ((held : List Portion) → g.S.PartSink.holds l.fn.session.sink held
    → IsKept (seen g.S.PartSink l.fn.session held) → HasCome g.S.PartSink which l.fn.session held
    l.steps (map g.R.Read.remaining l.fn.reels) l.step l.session
    (map g.R.Read.remaining (take l.used l.reels))
    (map g.R.Read.remaining (drop l.used l.reels))) × IsCalm g.S.PartSink l.fn.session l.session
    × (l.session.wide ≡ l.fn.session.wide) × (l.used ≡ reels_in (take l.step l.steps)) ×
    (drop l.used l.reels ≡ drop l.used l.fn.reels)
