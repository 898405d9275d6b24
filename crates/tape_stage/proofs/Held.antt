-- The contents of a stage as a sink.
use Rattle.std.proofs.Common.{◌≡◌, ℕ, Bool, List, length, Option, None, drop, refl, sym, ap, ◌∙◌}
use Rattle.std.proofs.{Common.arith, lemmas.List.length-take-le, lemmas.List.length-drop}
use Rattle.tape_stage.specs.declared.stage.StageFault.TheVariants.{NoPoint, BadFrame, Device}
use Rattle.tape_stage.specs.Stages.{IsStaged, AreHeld, Holds, HasRefused}
use Rattle.tape_stage.specs.declared.stage.StageFault.TheVariants.{OutOfMemory, Failed, Full}
use Rattle.tape_stage.specs.{Staged.Holding, declared.disk.Disk.Ghosts}
use Rattle.tape_stage.specs.{declared.stage.Stage.Stage, declared.stage.StageFault.StageFault}
use Rattle.tape_core.specs.{Point.Point, Stands.weight_of}
use Rattle.tape_blocks.specs.Block.{Portion}
use Rattle.tape_stage.proofs.Giving.{length-frames}

-- the weight of framed parts is the length of their frames
pub holding_weighs : (weight : ℕ) (parts : List Portion) (bytes : List ℕ)
    → Holding weight parts bytes → weight ≡ weight_of parts
holding_weighs weight parts bytes holding = sym (length-take-le weight (drop 256 bytes)
    (omega (arith, length-drop 256 bytes, holding.long))) ∙ ap length holding.frames_are
    ∙ length-frames parts

module _ {D : Type 0} {disk : Ghosts D} where
  -- a stage that has not failed contains its parts
  pub stage_holds : {at : D} {in_second : Bool} {generation : ℕ} {point : Point} {other_open : Bool}
      {weight : ℕ} {failed : Bool} {pending : Option Point} {acked parts : List Portion}
      → disk.is_honest at
      → IsStaged disk at in_second generation point other_open weight failed acked parts
      → AreHeld disk at in_second generation point other_open weight failed pending parts
  stage_holds {acked = acked} honest is = record {
    honest = λ none. honest;
    framed = is.holds;
    weighs = holding_weighs _ _ _ is.holds;
    ready = λ alive. (acked, is);
  }

  -- a stage that refused a call contains its parts, if the frames are unchanged
  pub refused_holds : (old new : Stage D disk) (parts : List Portion) (fault : StageFault)
      → HasRefused old new fault
      → (fault ≡ Device → new.pending ≡ None → disk.is_honest old.disk → disk.is_honest new.disk)
      → (disk.is_honest old.disk → Holding old.weight parts (disk.seen old.disk)
      → Holding old.weight parts (disk.seen new.disk)) → Holds old parts → Holds new parts
  refused_holds old new parts Device is honest kept holds = record {
    honest = λ none. honest refl none (holds.honest (old.settled (old.usable is.0)));
    framed = rw is.2 (kept (holds.honest (old.settled (old.usable is.0))) holds.framed);
    weighs = is.2 ∙ holds.weighs;
    ready = λ alive. absurd (cc (alive, is.1));
  }
  refused_holds old new parts Full is honest kept holds = rw is holds
  refused_holds old new parts Failed is honest kept holds = rw is.0 holds
  refused_holds old new parts NoPoint is honest kept holds = absurd is
  refused_holds old new parts (BadFrame place) is honest kept holds = absurd is
  refused_holds old new parts OutOfMemory is honest kept holds = absurd is

  -- reading leaves the contents unchanged
  pub read_held : (stage : Stage D disk) (new : D) (parts : List Portion) → disk.is_honest new
      → disk.seen new ≡ disk.seen stage.disk
      → ((c : List ℕ) → disk.may_leave new c → disk.may_leave stage.disk c) → Holds stage parts
      → AreHeld disk new stage.in_second stage.generation stage.acknowledged stage.other_open
      stage.weight stage.failed stage.pending parts
  read_held stage new parts honest same no_more held = record {
    honest = λ none. honest;
    framed = rw same held.framed;
    weighs = held.weighs;
    ready = λ alive. let (acked, was) = held.ready alive in (
      acked,
      record {
        alive = was.alive;
        ready = rw same record {
          staged = was.ready.staged;
          gate = was.ready.gate;
          alike = λ c left. was.ready.alike c (no_more c left);
        };
        holds = rw same was.holds;
        behind = was.behind;
      },
    );
  }
