use Rattle.std.proofs.Common.{◌≡◌, ◌∙◌, ℕ, List, [], ap, sym, append-nil, Err}
use Rattle.tape_blocks.specs.Block.{Portion}
use Rattle.tape_core.specs.{Crash.IsThis, Point.Point, Stands.weight_of}
use Rattle.tape_stage.specs.{Parts.IsFront, Stages.Returns}
use Rattle.tape_stage.proofs.{Held.stage_holds, Held.refused_holds, Tears.frames_holding}
use Rattle.tape_stage.proofs.Backs.{returned_kept, returned_now, adds_this, adds_refused}
use Rattle.tape_stage.proofs.stage.putting.StagePartSink.keep.Goals as goal

-- all parts are the first of their weight
all_of : (staged : ℕ) (parts : List Portion) → staged ≡ weight_of parts → IsFront staged parts parts
all_of staged parts weighs =
    record { rest = []; whole = sym (append-nil parts); weighs = sym weighs }

pub returns-in-Ok-clause-same : goal.returns-in-Ok-clause-same
returns-in-Ok-clause-same g c parts holds =
    let e = c.in-Ok.ensures in
    let honest = holds.honest (c.args.self.now.settled (c.args.self.now.usable e.ends.was_alive)) in
    let was = holds.ready e.ends.was_alive in
    stage_holds (e.ends.honest honest)
    (e.ok honest was.0 parts parts was.1 (all_of _ parts (c.requires ∙ holds.weighs)))

pub returns-in-Err-clause-same : goal.returns-in-Err-clause-same
returns-in-Err-clause-same g c parts holds =
    let s = c.args.self.now in
    let e = c.in-Err.ensures in
    refused_holds s c.save.new.self parts c.in-Err.fault e.ends.refused
    (λ device none honest. absurd (cc (e.pending (ap Err device)).0))
    (λ honest framed. frames_holding _ _ _ _ (e.frames honest) framed) holds

pub returns-in-Ok-clause-kept : goal.returns-in-Ok-clause-kept
returns-in-Ok-clause-kept g c parts holds =
    let new = c.save.new.self in
    let e = c.in-Ok.ensures in
    let honest = holds.honest (c.args.self.now.settled (c.args.self.now.usable e.ends.was_alive)) in
    let was = holds.ready e.ends.was_alive in
    let only : (back : Point) (there : List Portion) → Returns new back there
    → (back ≡ c.args.point.now) × (there ≡ parts) =
    λ back there r. returned_kept new parts _ back there (e.ok honest was.0 parts
    parts was.1 (all_of _ parts (c.requires ∙ holds.weighs))) e.named.acknowledged r in (
      only,
      λ back there r. only back there
          (returned_now new (e.ends.honest honest) (g.met.D.Disk.only_now new.disk) back there r),
    )

pub returns-in-Ok-clause-crash : goal.returns-in-Ok-clause-crash
returns-in-Ok-clause-crash g c parts holds =
    let s = c.args.self.now in
    let e = c.in-Ok.ensures in
    let honest = holds.honest (s.settled (s.usable e.ends.was_alive)) in
    let was = holds.ready e.ends.was_alive in
    adds_this s c.save.new.self was.0 parts parts c.args.point.now
    (g.met.D.Disk.seen_now s.disk honest) was.1 (e.any_moment honest was.0 parts parts was.1
    (all_of _ parts (c.requires ∙ holds.weighs)))

pub returns-in-Err-clause-crash : goal.returns-in-Err-clause-crash
returns-in-Err-clause-crash g c parts holds =
    let s = c.args.self.now in
    let e = c.in-Err.ensures in
    adds_refused s c.save.new.self (IsThis c.args.point.now parts) c.in-Err.fault
    e.ends.refused (λ alive.
    let honest = holds.honest (s.settled (s.usable alive)) in
    let was = holds.ready alive in
    adds_this s c.save.new.self was.0 parts parts c.args.point.now
    (g.met.D.Disk.seen_now s.disk honest) was.1 (e.any_moment honest was.0 parts parts was.1
    (all_of _ parts (c.requires ∙ holds.weighs))))
