-- Sessions over stages that were just created or opened.
use Rattle.std.proofs.Common.{◌≡◌, ℕ, List, false, sym, subst, ◌∙◌}
use Rattle.tape_blocks.specs.Block.{Portion}
use Rattle.tape_core.specs.Point.{Point}
use Rattle.tape_run.specs.{CrashRuns.IsResumed, Seen.seen, SessionState.SessionState}
use Rattle.tape_stage.specs.Stages.{Holds, Returns, Survives, Returned, Survived}
use Rattle.tape_stage.specs.declared.{disk.Disk.Ghosts, stage.Stage.Stage}
use Rattle.tape_stage.proofs.Backs.{returned_now, survived_now}
use Rattle.tape_tool.specs.Staging.{StandsAt, as_sink}

module _ {D : Type 0} {disk : Ghosts D} where
  -- a session over a stage has the stage's position
  pub stands_at : (point told : Point) (parts : List Portion)
      (session : SessionState (Stage D disk))
      (stage : Stage D disk) → session.sink ≡ stage
      → IsResumed point parts (seen as_sink session parts) → told ≡ point
      → Holds stage parts
      → ((back : Point) (there : List Portion) → Returns stage back there
      → (back ≡ told) × (there ≡ parts))
      → Survives stage → stage.failed ≡ false
      → ((c : List ℕ) → disk.is_honest stage.disk
      → disk.left_since stage.disk (disk.moment stage.disk) c → disk.may_leave stage.disk c)
      → StandsAt point parts session
  stands_at point told parts session stage same resumed is holds only survives alive now =
      let honest = holds.honest (stage.settled (stage.usable alive)) in
      record {
        resumed = resumed;
        holds = subst (λ (s : Stage D disk). Holds s parts) (sym same) holds;
        only = λ back there r. this back there
            (only back there (subst (λ (s : Stage D disk). Returns s back there) same r));
        survives = subst (λ (s : Stage D disk). Survives s) (sym same) survives;
        since = λ back there r. this back there (only back there
            (returned_now stage honest now back there (subst (λ (s : Stage D disk).
            Returned s (disk.moment s.disk) back there) same r)));
        survived = subst (λ (s : Stage D disk). Survived s (disk.moment s.disk)) (sym same)
            (survived_now stage honest now survives);
      }
    where
      this : (back : Point) (there : List Portion) → (back ≡ told) × (there ≡ parts)
          → (back ≡ point) × (there ≡ parts)
      this back there both = (both.0 ∙ is, both.1)
