-- A session, as contracts see it.
use Rattle.std.specs.Prelude.{ℕ, Bool, true, List}
use Rattle.tape_core.specs.{Point.Point, State.State}

-- its core, its sink, its checkpoints, how many readers failed, and whether it reads reels in the
-- wider reading
pub record SessionState (S : Type 0) : Type 0 where
  pub core : State
  pub sink : S
  pub notes : List Point
  pub failures : ℕ
  pub wide : Bool

-- the session, with its reels in the wider reading from now on
abbrev pub widened : {S : Type 0} → SessionState S → SessionState S
widened s = record {
  core = s.core;
  sink = s.sink;
  notes = s.notes;
  failures = s.failures;
  wide = true;
}
