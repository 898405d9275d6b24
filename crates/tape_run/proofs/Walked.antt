-- Sinks that were walked.
use Rattle.std.proofs.Common.{◌≡◌, ℕ, List, Option, Result, Ok, subst, ◌∙◌}
use Rattle.tape_blocks.specs.{Block.Portion, declared.parts.Part.Part}
use Rattle.tape_core.specs.{Walks.Counts, Walks.HasGiven, declared.sink.PartSink.Ghosts}
use Rattle.tape_core.specs.declared.sink.SinkFault.{SinkFault}
use Rattle.tape_run.specs.Crash.{BringsNoMore}
use Rattle.tape_run.proofs.Crashes.{adds_then}

-- The sink's contents are unchanged, a crash leaves nothing new, and no call was refused.
pub record Walked {S : Type 0} (g : Ghosts S) (old new : S) : Type 0 where
  pub calm : g.refusals new ≡ g.refusals old
  pub kept : (parts : List Portion) → g.holds old parts → g.holds new parts
  pub crash : BringsNoMore g old new

-- whatever the next call returned, a crash leaves nothing new
pub walk_crash : {S : Type 0} {g : Ghosts S} {ahead : S → List Portion → Type 0}
    {left : S → ℕ} {refuses : S → SinkFault → S → Type 0} (old mid new : S)
    (result : Result (Option Part) SinkFault)
    → Walked g old mid
    → HasGiven g.holds g.weighs g.refusals g.crashes ahead left refuses mid result new
    → BringsNoMore g old new
walk_crash old mid new result w h parts was =
    adds_then _ _ _ (w.crash parts was) (h.crash parts (w.kept parts was))

-- the next call was not refused
pub walk_on : {S : Type 0} {g : Ghosts S} {ahead : S → List Portion → Type 0}
    {left : S → ℕ} {refuses : S → SinkFault → S → Type 0} (old mid new : S)
    (result : Result (Option Part) SinkFault)
    (given : Option Part) → result ≡ Ok given
    → Walked g old mid
    → HasGiven g.holds g.weighs g.refusals g.crashes ahead left refuses mid result new
    → Walked g old new
walk_on {S} {g} old mid new result given is w h = record {
  calm = subst (λ r. Counts r (g.refusals mid) (g.refusals new)) is h.counts ∙ w.calm;
  kept = λ parts was. h.kept parts (w.kept parts was);
  crash = walk_crash old mid new result w h;
}
