use Rattle.std.proofs.Common.{◌≡◌, ◌≤◌, ◌+◌, ◌∙◌, ◌∷◌, ◌++◌, ℕ, List, [], length, take, ap, arith}
use Rattle.std.proofs.{Common.refl, Common.true, Common.false, lemmas.List.with_items_is}
use Rattle.tape_blocks.specs.{Block.Portion, Parts.view}
use Rattle.tape_core.specs.Crash.{AddsNothing}
use Rattle.tape_core.proofs.Crashes.{only_same}
use Rattle.tape_stage.specs.Stages.{Holds, IsStage, IsStaged, crashes_of, crashes_on}
use Rattle.tape_stage.specs.{Moments.Passes, Staged.StagedIn}
use Rattle.tape_stage.proofs.Keeps.{front_staged, kept_front_holding, still_ready, torn_keeps}
use Rattle.tape_stage.proofs.{Giving.one_write, Giving.put_holding, Giving.stored_is}
use Rattle.tape_stage.proofs.{Passing.nothing, Passing.stands, Torn.holds_torn, Held.stage_holds}
use Rattle.tape_stage.proofs.{Backs.adds_nothing, SlotSteps.ready_each}
use Rattle.tape_stage.proofs.stage.putting.StagePartSink.put.Given.{Over}
use Rattle.tape_stage.proofs.stage.putting.StagePartSink.put.Goals.{After-write_at, In-Ok}
use Rattle.tape_stage.proofs.stage.putting.StagePartSink.put.Goals as goal

pub returns-then-self-clause-crash : goal.returns-then-self-clause-crash
returns-then-self-clause-crash g c parts holds = only_same _ (crashes_of c.args.self.now)

pub returns-then-size-self-clause-crash : goal.returns-then-size-self-clause-crash
returns-then-size-self-clause-crash g c parts holds = only_same _ (crashes_of c.args.self.now)

pub returns-then-size-self-clause-any_moment : goal.returns-then-size-self-clause-any_moment
returns-then-size-self-clause-any_moment g c honest acked parts is =
    nothing g.D.Disk _ _ (λ x left. (ready_each _ _ _ _ _ _ _ x is.ready left).0)

-- the results of a crash begin with the frames before the part
passes : (g : Over) (c : After-write_at g) → g.D.Disk.is_honest c.args.self.now.disk
    → (acked parts : List Portion) → IsStage c.args.self.now acked parts
    → Passes g.D.Disk c.args.self.now.disk c.write_at.new.self (StagedIn c.args.self.now.in_second
    c.args.self.now.generation c.args.self.now.acknowledged acked)
passes g c honest acked parts is =
    stands g.D.Disk _ _ _ (c.write_at.ensures.time honest) (λ x left.
    let from = c.write_at.ensures.crash honest x left in
    front_staged _ _ _ _ _ (256 + c.args.self.now.weight) _ _ x (omega (arith, is.behind)) is.ready
    (from.0, from.1, from.2.before))

adds : (g : Over) (c : After-write_at g) (parts : List Portion) → Holds c.args.self.now parts
    → AddsNothing (crashes_of c.args.self.now) (crashes_on g.D.Disk c.write_at.new.self)
adds g c parts holds =
    let s = c.args.self.now in
    let honest = holds.honest (s.settled (s.usable c.if-self.false)) in
    let was = holds.ready c.if-self.false in
    adds_nothing s c.write_at.new.self was.0 parts (g.met.D.Disk.seen_now s.disk honest) was.1
    (passes g c honest was.0 parts was.1)

staged : (g : Over) (c : In-Ok g) → g.D.Disk.is_honest c.args.self.now.disk
    → (acked parts : List Portion) → IsStage c.args.self.now acked parts → IsStaged g.D.Disk
    c.write_at.new.self c.args.self.now.in_second c.args.self.now.generation
    c.args.self.now.acknowledged c.args.self.now.other_open
    (c.args.self.now.weight + (5 + length c.args.part.bytes.now)) c.args.self.now.failed acked
    (parts ++ view c.args.part ∷ [])
staged g c honest acked parts is_stage =
    let s = c.args.self.now in
    let old = ap length c.as_mut_slice-frame.ensures.value in
    let frame_is = stored_is (view c.args.part) c.as_mut_slice-frame.result.now
    c.copy_from_slice.new.self c.copy_from_slice-2.new.self c.indicator.result c.requires
    (omega (arith, old, s.room)) c.indicator.ensures
    (c.copy_from_slice.ensures.after ∙ c.to_be_bytes.ensures) c.copy_from_slice-2.ensures.after in
    let same = c.deref.ensures.value
    ∙ with_items_is s.buffer _ (omega (arith, old, frame_is.0)) in
    let holds = c.in-Ok.ensures.written honest in
    let room : 256 + s.weight ≤ length (g.D.Disk.seen s.disk) =
    omega (arith, is_stage.holds.long) in
    let front = (holds_torn _ _ _ _ room holds).before in
    let put = one_write _ (view c.args.part) _ _ _
    (ap (take (5 + length c.args.part.bytes.now)) same ∙ frame_is.1) room holds in
    record {
      alive = is_stage.alive;
      ready = still_ready _ _ _ _ _ (256 + s.weight) _ _ _ _ (omega (arith, is_stage.behind))
          is_stage.ready front (omega (arith, put.1)) (λ x left.
          let from = c.write_at.ensures.crash honest x left in (from.0, from.1, from.2.before));
      holds = put_holding _ _ _ _ _ _ refl c.requires is_stage.holds front put.0 put.1;
      behind = omega (arith, is_stage.behind);
    }

pub returns-in-Ok-clause-staged : goal.returns-in-Ok-clause-staged
returns-in-Ok-clause-staged g c = staged g (goal.at.returns-in-Ok-clause-staged g c).In-Ok

pub returns-in-Ok-clause-any_moment : goal.returns-in-Ok-clause-any_moment
returns-in-Ok-clause-any_moment g c =
    passes g (goal.at.returns-in-Ok-clause-any_moment g c).After-write_at

pub returns-in-Ok-clause-kept : goal.returns-in-Ok-clause-kept
returns-in-Ok-clause-kept g c honest =
    let s = c.args.self.now in
    let room : 256 + s.weight ≤ length (g.D.Disk.seen s.disk) =
    omega (arith, g.met.D.Disk.long_as_seen s.disk honest, s.long (s.usable c.if-self.false)) in
    torn_keeps _ _ _ _ _ (omega arith) (holds_torn _ _ _ _ room (c.in-Ok.ensures.written honest))

pub returns-in-Ok-clause-ok : goal.returns-in-Ok-clause-ok
returns-in-Ok-clause-ok g c parts holds =
    let s = c.args.self.now in
    let honest = holds.honest (s.settled (s.usable c.if-self.false)) in
    let was = holds.ready c.if-self.false in
    stage_holds (c.write_at.ensures.honest.onward honest)
    (staged g (goal.at.returns-in-Ok-clause-ok g c).In-Ok honest was.0 parts was.1)

pub returns-in-Ok-clause-crash : goal.returns-in-Ok-clause-crash
returns-in-Ok-clause-crash g c = adds g (goal.at.returns-in-Ok-clause-crash g c).After-write_at

pub returns-in-Err-clause-any_moment : goal.returns-in-Err-clause-any_moment
returns-in-Err-clause-any_moment g c =
    passes g (goal.at.returns-in-Err-clause-any_moment g c).After-write_at

pub returns-in-Err-clause-kept : goal.returns-in-Err-clause-kept
returns-in-Err-clause-kept g c honest =
    torn_keeps _ _ _ _ _ (omega arith) (c.in-Err.ensures.partly honest)

pub returns-in-Err-clause-err : goal.returns-in-Err-clause-err
returns-in-Err-clause-err g c parts holds =
    let s = c.args.self.now in
    let honest = holds.honest (s.settled (s.usable c.if-self.false)) in
    record {
      honest = λ none. c.write_at.ensures.honest.onward honest;
      framed = kept_front_holding _ _ _ _ (torn_keeps _ _ _ _ _ (omega arith)
          (c.in-Err.ensures.partly honest)) holds.framed;
      weighs = holds.weighs;
      ready = λ alive. absurd (let no : true ≡ false = alive in cc);
    }

pub returns-in-Err-clause-crash : goal.returns-in-Err-clause-crash
returns-in-Err-clause-crash g c = adds g (goal.at.returns-in-Err-clause-crash g c).After-write_at
