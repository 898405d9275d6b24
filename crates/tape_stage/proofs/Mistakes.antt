-- Results that the contracts of checkpoints, disks and stages exclude: each is the result of a
-- wrong body.
use Rattle.std.proofs.Common.{◌≡◌, ℕ, List, true, false, sym, ap, subst, ◌∙◌, arith, Some, Ok, Err}
use Rattle.std.proofs.Common.{option_map, unwrap_or, ◌⊎◌, inl, inr, ◌+◌, Bool, not, [], ◌∷◌, Option}
use Rattle.std.proofs.Common.{None}
use Rattle.tape_core.specs.{Point.Point, Stands.weight_of}
use Rattle.tape_stage.specs.Staged.{best, gate_at, slot_at, body_at, read_slot, IsEither, Loses}
use Rattle.tape_stage.specs.{Staged.Ready, Staged.Staged, Staged.StagedIn, Faults.IsNotDevice}
use Rattle.tape_stage.specs.declared.stage.StageFault.TheVariants.{NoPoint, OutOfMemory}
use Rattle.tape_stage.specs.{Stages.Holds, Stages.IsStage, Stages.Survived, Found.IsFaultOf}
use Rattle.tape_stage.specs.{Salvaged.Remains, Text.IsPointText, Text.IsStandard, Parts.IsFront}
use Rattle.tape_stage.specs.declared.point.Version.TheVariants.{One}
use Rattle.tape_blocks.specs.Block.{Portion}
use Rattle.tape_stage.proofs.Once.{remains_once}
use Rattle.tape_stage.specs.declared.disk.DiskFault.TheVariants as disk_faults
use Rattle.tape_stage.specs.declared.point.text.PointFault.TheVariants as faults
use Rattle.tape_stage.proofs.disk.file.FileDiskDisk.sync.Reads as sync
use Rattle.tape_stage.proofs.point.read_point.Reads as read_point
use Rattle.tape_stage.proofs.stage.saving.replace_slot.Reads as replace_slot
use Rattle.tape_stage.proofs.stage.Stage.create.Reads as create
use Rattle.tape_stage.proofs.stage.Stage.open_disk.Reads as open_disk
use Rattle.tape_stage.proofs.stage.saving.close_gate.Reads as close_gate
use Rattle.tape_stage.proofs.stage.Stage.save.Reads as save
use Rattle.tape_stage.proofs.stage.putting.StagePartSink.keep.Reads as keep
use Rattle.tape_stage.proofs.stage.Stage.open_read_only.Reads as open_read_only

-- version_1_refused: a text of version 1 is refused as having an unknown version
version_1_refused : (κs : _) (a : _) (s : _) (c : Point)
    → read_point.Learnt-named κs a (Err faults.Version) s → IsPointText One a.0.now c
    → IsStandard c.known → ⊥
version_1_refused κs a s c l spelled standard =
    let d : Err faults.Version ≡ Ok c = l.only One c spelled standard in
    absurd (cc)

-- ---- disks

-- sync_failure_forgotten: the file could not be synced, but later calls succeed
sync_failure_forgotten : (F : _) (L : _) (r : _) (dr : _) (w : _) (dw : _) (k : _) (dk : _) (o : _)
    (dp : _) (κs : _) (a : _) (s : _) → sync.Learnt-named F L r dr w dw k dk o dp κs a
    (Err disk_faults.Device) s → s.0.now.lost ≡ false → ⊥
sync_failure_forgotten F L r dr w dw k dk o dp κs a s l is =
    let e : false ≡ true = sym is ∙ l.lost in
    absurd (cc)

-- lost_disk_synced: after a failed sync the file is not synced again, but success is reported
lost_disk_synced : (F : _) (L : _) (r : _) (dr : _) (w : _) (dw : _) (k : _) (dk : _) (o : _)
    (dp : _) (κs : _) (a : _) (s : _) → sync.Learnt-named F L r dr w dw k dk o dp κs a (Ok tt) s
    → a.0.now.lost ≡ true → ⊥
lost_disk_synced F L r dr w dw k dk o dp κs a s l is =
    let e : true ≡ false = sym is ∙ l.alive in
    absurd (cc)

-- ---- stages

-- older_slot_opened: the slots have the generations 3 and 4, but the older one is opened
older_slot_opened : (D : _) (L : _) (g : _) (d : _) (κs : _) (a : _) (opened : _) (s : _) (old : _)
    (young : _) → open_disk.Learnt-named D L g d κs a (Ok opened) s → g.is_honest a.1.0
    → slot_at false (g.seen a.1.0) ≡ Some (3, old) → slot_at true (g.seen a.1.0) ≡ Some (4, young)
    → opened.0.generation ≡ 3 → ⊥
older_slot_opened D L g d κs a opened s old young l honest first second w =
    let e : best (slot_at false (g.seen a.1.0)) (slot_at true (g.seen a.1.0))
    ≡ Some (opened.0.generation, opened.1) = (l.ok honest).1.slot in
    let f : best (Some (3, old)) (Some (4, young)) ≡ Some (opened.0.generation, opened.1) =
    subst (λ v. best v (Some (4, young)) ≡ Some (opened.0.generation, opened.1)) first (subst
    (λ v. best (slot_at false (g.seen a.1.0)) v ≡ Some (opened.0.generation, opened.1)) second e) in
    absurd (let n : 4 ≡ 3 = ap (λ v. unwrap_or (option_map (λ b. b.0) v) 0) f ∙ w in omega arith)

-- no_stage_emptied: a file that is not a stage is truncated to length 0
no_stage_emptied : (D : _) (L : _) (g : _) (d : _) (κs : _) (a : _) (refused : _) (s : _)
    → open_disk.Learnt-named D L g d κs a (Err refused) s → refused.fault ≡ NoPoint
    → g.length_of a.1.0 ≡ 10 → g.length_of refused.disk ≡ 0 → ⊥
no_stage_emptied D L g d κs a refused s l w ten none =
    let e : g.length_of refused.disk ≡ g.length_of a.1.0
    = l.refused.same_length (subst IsNotDevice (sym w) tt) in
    absurd (let n : 0 ≡ 10 = sym none ∙ e ∙ ten in omega arith)

-- bad_frame_told_as_no_stage: a frame is damaged, and the fault says that no slot is valid
bad_frame_told_as_no_stage : (D : _) (L : _) (g : _) (d : _) (κs : _) (a : _) (refused : _) (s : _)
    (n : _) (point : _) (place : _) (parts : _)
    → open_disk.Learnt-named D L g d κs a (Err refused) s → g.is_honest a.1.0
    → Remains (g.seen a.1.0) n point (Some place) parts → refused.fault ≡ NoPoint → ⊥
bad_frame_told_as_no_stage D L g d κs a refused s n point place parts l honest is w =
    let says : IsFaultOf (g.seen a.1.0) NoPoint
    = subst (IsFaultOf (g.seen a.1.0)) w (l.refused.says honest) in
    says n point (Some place) parts is

-- disk_cut_without_memory: there was no memory to create a stage, and the disk was changed
disk_cut_without_memory : (D : _) (L : _) (g : _) (d : _) (κs : _) (a : _) (refused : _) (s : _)
    → create.Learnt-named D L g d κs a (Err refused) s → refused.fault ≡ OutOfMemory
    → g.moment a.1.0 ≡ 0 → g.moment refused.disk ≡ 1 → ⊥
disk_cut_without_memory D L g d κs a refused s l w before later =
    let n : 1 ≡ 0 = sym later ∙ ap g.moment (l.unwritten (subst IsNotDevice (sym w) tt)) ∙ before in
    absurd (omega (arith, n))

-- acknowledged_before_the_last_sync: the gate is open, but a crash may leave it closed
acknowledged_before_the_last_sync : (D : _) (L : _) (g : _) (d : _) (κs : _) (a : _) (s : _)
    (c : List ℕ) → replace_slot.Learnt-named D L g d κs a (Ok tt) s → g.is_honest a.0.now
    → g.may_leave s.0.now c → gate_at true (g.seen s.0.now) ≡ 79 → gate_at true c ≡ 67 → ⊥
acknowledged_before_the_last_sync D L g d κs a s c l honest left read lost =
    let e : c ≡ g.seen s.0.now = l.synced.durable honest c left in
    absurd (let n : 67 ≡ 79 = sym lost ∙ ap (gate_at true) e ∙ read in omega arith)

-- if no contents were possible before, the contents left satisfy P
since_then : {A P : Type 0} → (A → ⊥) → A ⊎ P → P
since_then none (inl a) = absurd (none a)
since_then none (inr p) = p

-- a slot with a later generation replaces the other
wins : (second : Bool) (n : ℕ) (point : Point) → Loses second n (Some (n + 5, point)) → ⊥
wins true n point lt = absurd (omega arith)
wins false n point le = absurd (omega arith)

-- the meaning of a slot with an open gate is that of its body
body_read : (second : Bool) (n : ℕ) (point next other : Point) (parts more : List Portion)
    (c : List ℕ) → slot_at (not second) c ≡ Some (n + 5, other)
    → IsEither second n point next parts more c → ⊥
body_read second n point next other parts more c says (inl old) =
    wins second n other (subst (Loses second n) says old.other)
body_read second n point next other parts more c says (inr new) =
    let e : Some (n + 5, other) ≡ Some (n + 1, next)
    = sym says ∙ ap (λ v. read_slot v (body_at (not second) c)) new.is_open ∙ new.body in
    absurd (let m : n + 5 ≡ n + 1 = ap (λ v. unwrap_or (option_map (λ b. b.0) v) 0) e in
    omega arith)

-- gate_before_sync: inside a save the gate of the next slot is open over a body that is
-- not synced, which has a later generation and another checkpoint
gate_before_sync : (D : _) (L : _) (g : _) (d : _) (κs : _) (a : _) (z : _) (s : _)
    (acked parts front : List Portion) (c : List ℕ) (other : Point)
    → save.Learnt-named D L g d κs a z s → g.is_honest a.0.now.disk → IsStage a.0.now acked parts
    → IsFront a.1.0.now.staged front parts → g.left_since s.0.now.disk (g.moment a.0.now.disk) c
    → (g.left_since a.0.now.disk (g.moment a.0.now.disk) c → ⊥) → slot_at (not a.0.now.in_second) c
    ≡ Some (a.0.now.generation + 5, other) → ⊥
gate_before_sync D L g d κs a z s acked parts front c other l honest stage of left before says =
    body_read _ _ _ _ other _ _ _ says (since_then before ((l.any_moment honest acked parts front
    stage of).before (g.moment a.0.now.disk) c (omega arith) left))

-- closed_gate_closed_again: the second slot is current, and a torn write opens the closed gate of
-- the first, over a body with a later generation
closed_gate_closed_again : (D : _) (L : _) (g : _) (d : _) (κs : _) (a : _) (z : _) (s : _)
    (n : ℕ) (point other : Point) (parts : List Portion) (c : List ℕ)
    → close_gate.Learnt-named D L g d κs a z s → g.is_honest a.0.now
    → Ready a.1.0 n point parts a.1.1.0 (g.seen a.0.now) (g.may_leave a.0.now) → a.1.0 ≡ true
    → a.1.1.0 ≡ false → g.left_since s.0.now (g.moment a.0.now) c
    → (g.left_since a.0.now (g.moment a.0.now) c → ⊥) → slot_at false c ≡ Some (n + 5, other) → ⊥
closed_gate_closed_again D L g d κs a z s n point other parts c l honest ready second closed left
    before says =
    let staged : StagedIn a.1.0 n point parts c = since_then before
    ((l.any_moment honest n point parts ready).before (g.moment a.0.now) c (omega arith) left) in
    let e : StagedIn true n point parts c = subst (λ b. StagedIn b n point parts c) second staged in
    wins true n other (subst (Loses true n) says e.other)

-- saved_checkpoint_removed_first: a stage that survives every crash saves a checkpoint, and
-- meanwhile a crash leaves a file that represents nothing
saved_checkpoint_removed_first : (D : _) (L : _) (g : _) (d : _) (κs : _) (a : _) (z : _) (s : _)
    (parts : List Portion) (c : List ℕ) → keep.Learnt-named D L g d κs a z s → Holds a.0.now parts
    → Survived a.0.now (g.moment a.0.now.disk) → g.left_since s.0.now.disk (g.moment a.0.now.disk) c
    → ((n : ℕ) (point : Point) (ps : List Portion) → Staged c n point ps → ⊥) → ⊥
saved_checkpoint_removed_first D L g d κs a z s parts c l holds survives left none =
    let (n, point, ps, staged) = (l.crash parts holds).survived (g.moment a.0.now.disk)
    (omega arith) survives c (inl left) in
    none n point ps staged

-- break_told_as_whole: the frames are damaged at offset 262, but all of them are reported as intact
break_told_as_whole : (D : _) (L : _) (g : _) (d : _) (κs : _) (a : _) (opened : _) (s : _) (n : ℕ)
    (point : Point) (parts : List Portion) → open_read_only.Learnt-named D L g d κs a (Ok opened) s
    → g.is_honest a.1.0 → Remains (g.seen a.1.0) n point (Some 262) parts → opened.broken ≡ None → ⊥
break_told_as_whole D L g d κs a opened s n point parts l honest is whole =
    let found = l.remains honest in
    let same = remains_once (g.seen a.1.0) found.0 n opened.point point opened.broken (Some 262)
    found.1 parts found.2 is in
    let e : None ≡ Some 262 = sym whole ∙ same.2 in
    absurd (cc)

-- part_before_break_left_out: two parts precede the damage, but only the first is returned
part_before_break_left_out : (D : _) (L : _) (g : _) (d : _) (κs : _) (a : _) (opened : _) (s : _)
    (n : ℕ) (point : Point) (broken : Option ℕ) (first second : Portion)
    → open_read_only.Learnt-named D L g d κs a (Ok opened) s → g.is_honest a.1.0 → Remains
    (g.seen a.1.0) n point broken (first ∷ second ∷ []) → Holds opened.stage (first ∷ []) → ⊥
part_before_break_left_out D L g d κs a opened s n point broken first second l honest is holds =
    let found = l.remains honest in
    let same = remains_once (g.seen a.1.0) found.0 n opened.point point opened.broken broken found.1
    (first ∷ second ∷ []) found.2 is in
    let both : opened.stage.weight ≡ weight_of (first ∷ second ∷ []) =
    found.3.weighs ∙ ap weight_of same.3 in
    omega (arith, both, holds.weighs)

-- damaged_stage_told_as_none: parts remain before the damage, but NoPoint is returned
damaged_stage_told_as_none : (D : _) (L : _) (g : _) (d : _) (κs : _) (a : _) (refused : _) (s : _)
    (n : ℕ) (point : Point) (parts : List Portion)
    → open_read_only.Learnt-named D L g d κs a (Err refused) s → g.is_honest a.1.0
    → Remains (g.seen a.1.0) n point (Some 262) parts → refused.fault ≡ NoPoint → ⊥
damaged_stage_told_as_none D L g d κs a refused s n point parts l honest is w =
    l.refused.none honest (rw w tt) n point (Some 262) parts is

-- damaged_stage_cut_by_reading: the file had ten bytes, and has none after it was opened
damaged_stage_cut_by_reading : (D : _) (L : _) (g : _) (d : _) (κs : _) (a : _) (opened : _)
    (s : _) → open_read_only.Learnt-named D L g d κs a (Ok opened) s
    → g.length_of a.1.0 ≡ 10 → g.length_of opened.stage.disk ≡ 0 → ⊥
damaged_stage_cut_by_reading D L g d κs a opened s l ten none =
    absurd (let n : 0 ≡ 10 = sym none ∙ l.reads.same_length ∙ ten in omega arith)

-- read_only_stage_takes_parts: a stage that was opened for reading only accepts changes
read_only_stage_takes_parts : (D : _) (L : _) (g : _) (d : _) (κs : _) (a : _) (opened : _) (s : _)
    → open_read_only.Learnt-named D L g d κs a (Ok opened) s → opened.stage.failed ≡ false → ⊥
read_only_stage_takes_parts D L g d κs a opened s l open_still =
    let e : false ≡ true = sym open_still ∙ l.sealed.0 in
    absurd (cc)
