-- The results of a sink.
use Rattle.std.specs.Prelude.{◌≡◌, ℕ, ◌<◌, ◌≤◌, length, List, [], ◌∷◌, Option, Some, None, Result}
use Rattle.std.specs.Prelude.{Ok, Err, IfErr}
use Rattle.tape_blocks.specs.declared.parts.Part.{Part}
use Rattle.tape_blocks.specs.{Block.Portion, Parts.view, Packing.longest_block}
use Rattle.tape_core.specs.{Crash.AddsNothing, Crash.Crashes, Weight.Rose}
use Rattle.tape_core.specs.declared.sink.SinkFault.{SinkFault}

-- the parts that were to come, by the answer: no parts; the part returned, followed by those still
-- to come; after a fault, those still to come
abbrev pub GivesPart : Result (Option Part) SinkFault → List Portion → (List Portion → Type 0)
    → Type 0
GivesPart (Ok None) parts Ahead = (parts ≡ []) × Ahead []
GivesPart (Ok (Some part)) parts Ahead = (rest : List Portion) × (parts ≡ view part ∷ rest)
    × Ahead rest
GivesPart (Err fault) parts Ahead = Ahead parts

-- only refused calls are counted
abbrev pub Counts : Result (Option Part) SinkFault → ℕ → ℕ → Type 0
Counts (Ok given) old new = new ≡ old
Counts (Err fault) old new = Rose old new

-- a part that is returned is short enough for `put`, and fewer are left
abbrev pub Lends : Result (Option Part) SinkFault → ℕ → ℕ → Type 0
Lends (Ok (Some part)) old new = (length part.bytes.now ≤ longest_block) × (new < old)
Lends _ old new = Unit {0}

-- The sink's contents are unchanged, and it returned the next of the parts to come, or refused the
-- call with a stated reason.
pub record HasGiven {S : Type 0} (holds : S → List Portion → Type 0) (weighs refusals : S → ℕ)
    (crashes : S → Crashes) (ahead : S → List Portion → Type 0) (left : S → ℕ)
    (refuses : S → SinkFault → S → Type 0) (old : S)
    (result : Result (Option Part) SinkFault) (new : S) : Type 0 where
  pub kept : (parts : List Portion) → holds old parts → holds new parts
  pub crash : (parts : List Portion) → holds old parts → AddsNothing (crashes old) (crashes new)
  pub same_weight : weighs new ≡ weighs old
  pub gives : (parts : List Portion) → ahead old parts → GivesPart result parts (ahead new)
  pub lends : Lends result (left old) (left new)
  pub counts : Counts result (refusals old) (refusals new)
  pub why : IfErr result (λ fault. refuses old fault new)
