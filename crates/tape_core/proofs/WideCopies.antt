-- Over copies of the volumes of a valid set, behind them, and on reels that do not belong to it,
-- both readings have the same steps.
use Rattle.std.proofs.Common.{◌≡◌, ◌≢◌, ◌≤◌, ℕ, List, [], ◌∷◌, ◌++◌, length, Bool, true, false}
use Rattle.std.proofs.Common.{cond, Option, Some, None, refl, sym, ap, subst, ◌∙◌, slice_get}
use Rattle.std.proofs.Common.{IsSome, arith}
use Rattle.std.proofs.lemmas.List.{length-map}
use Rattle.tape_image.specs.Tape.{TapeItem, block as block', bad, mark}
use Rattle.tape_label.specs.declared.values.{Format.Format}
use Rattle.tape_label.specs.declared.values.Format.TheVariants.{Fixed}
use Rattle.tape_blocks.specs.{Content.content_in, Tight.Filled}
use Rattle.tape_blocks.proofs.{Wide.content_kept, OwnLaws.judged_only}
use Rattle.tape_set.specs.declared.position.Position.{Position}
use Rattle.tape_set.specs.declared.position.Position.TheVariants.{Awaits, Finished}
use Rattle.tape_set.specs.Lawful.{IsLawful, TellsForm, FileForm, binding_len}
use Rattle.tape_set.specs.Layout.{FileSet, Volume, Entry, a_label, a_mark, a_data_block, item_of}
use Rattle.tape_set.specs.Layout.{nth}
use Rattle.tape_set.specs.Layout.{Section, entries, items, data_group, trailer_group}
use Rattle.tape_core.specs.declared.event.{Heading.Heading, Phase.Phase}
use Rattle.tape_core.specs.declared.event.Answer.TheVariants.{Deliver}
use Rattle.tape_core.specs.declared.event.Phase.TheVariants.{Header2, DataWanted}
use Rattle.tape_label.specs.{Formats.least_record}
use Rattle.tape_core.specs.Overlap.{Contains}
use Rattle.tape_core.specs.{State.State, Table.Outcome, Table.passed, Foreign.IsForeignAt}
use Rattle.tape_core.specs.Follows.{IsReading, Follows, InData, Left, to_come}
use Rattle.tape_core.specs.Table as Table
use Rattle.tape_core.specs.Wide as Wide
use Rattle.tape_core.proofs.{Aim.Aim, Aim.aim_of, Steps.item_at, Fronts.first_left}
use Rattle.tape_core.proofs.{Overlap.held_there}
use Rattle.tape_core.proofs.WideLawful.{item_same, behind_same, foreign_same, left_same}
use Rattle.tape_core.proofs.WideLawful.{beyond}

-- ---- on the volumes of a valid set

least : (form : FileForm) (s : _) → TellsForm form s → form.format ≡ Fixed → 1 ≤ form.rec_len
least form s t fixed =
    let format : t.second.format ≡ Fixed = ap (λ (f : FileForm). f.format) t.told ∙ fixed in
    let range : least_record t.second.format ≤ t.second.rec_len = t.hdr2.rec_len.at_least in
    let one : least_record t.second.format ≡ 1 = ap least_record format in
    let len : t.second.rec_len ≡ form.rec_len =
    sym (ap (λ (z : Format). binding_len z t.second.rec_len) format)
    ∙ ap (λ (f : FileForm). f.rec_len) t.told in
    omega (arith, range, one, len)

block_kept : (form : FileForm) (s : _) (bytes : List ℕ) (parts : _) → TellsForm form s
    → Contains form bytes parts
    → content_in form.format form.rec_len form.offset bytes ≡ bytes
block_kept form s bytes parts t (holds, (end, order)) =
    content_kept form.format form.rec_len form.offset _ end bytes (least form s t)
    (judged_only form.format form.rec_len form.offset _ end bytes parts holds order)

module _ (aim : Aim) where
  open aim use {set, core, sect, block, part, k, good}

  data_kept : (heading : Heading) (form : FileForm) (count : ℕ) (x : _)
      (i : InData set core.file sect block part k good heading form count core.position x)
      (e : Entry) → slice_get (entries set k) (length good) ≡ Some e
      → (blocks : List Filled) → i.blocks ≡ blocks
      → Wide.item_by (DataWanted heading form count) (item_of e) ≡ item_of e
  data_kept heading form count x i e s [] q =
      let is : a_mark ≡ e = first_left set k good e a_mark _ (subst (λ z. Left set k good
      ((data_group z ++ trailer_group x.section) ++ to_come i.inside.later)) q i.inside.left) s in
      subst (λ z. Wide.item_by (DataWanted heading form count) (item_of z) ≡ item_of z) is refl
  data_kept heading form count x i e s (d ∷ rest) q =
      let is : a_data_block d.bytes ≡ e = first_left set k good e (a_data_block d.bytes) _
      (subst (λ z. Left set k good
      ((data_group z ++ trailer_group x.section) ++ to_come i.inside.later)) q i.inside.left) s in
      let h = held_there aim heading form count x i d rest q in
      subst (λ z. Wide.item_by (DataWanted heading form count) (item_of z) ≡ item_of z) is
      (ap block' (block_kept form x.section d.bytes d.parts i.labels h.1))

  kept_in : (e : Entry) → slice_get (entries set k) (length good) ≡ Some e → (phase : Phase)
      → Follows set core.file sect block part k phase core.position good
      → Wide.item_by phase (item_of e) ≡ item_of e
  kept_in e s (DataWanted heading form count) f =
      data_kept heading form count f.0 f.1 e s f.1.blocks refl
  kept_in (a_label b) s _ f = refl
  kept_in (a_data_block b) s _ f = refl
  kept_in a_mark s _ f = refl

unless_any : (core : State) (x y : Outcome) (p : Position) → p ≡ Finished
    → Table.unless_complete core p x ≡ Table.unless_complete core p y
unless_any core x y Finished e = refl
unless_any core x y (Awaits sect b part) e = absurd (cc)

complete_same : (core : State) (phase : Phase) (p : Position) (arrived : Option TapeItem)
    → p ≡ Finished → Wide.by_phase core phase p arrived ≡ Table.step_of core arrived
complete_same core (Header2 heading wanted) Finished arrived e = refl
complete_same core (Header2 heading wanted) (Awaits sect b part) arrived e = absurd (cc)
complete_same core _ p arrived e = refl

-- at the end of a file the item does not matter
any_item : (core : State) (x y : TapeItem) → core.position ≡ Finished
    → Table.step_of core (Some x) ≡ Table.step_of core (Some y)
any_item core x y e = unless_any core _ _ core.position e

-- the next item of a volume is read as it is
kept_next : (core : State) (set : FileSet) (sect b part k : ℕ) (v : Volume) (good : List Bool)
    (g : Bool) (e : Entry) → IsLawful set → nth set.volumes k ≡ Some v
    → slice_get (entries set k) (length good) ≡ Some e
    → IsReading set (Awaits sect b part) k good core
    → Wide.content_item core (cond g (item_of e) bad) ≡ cond g (item_of e) bad
kept_next core set sect b part k v good false e l vol s r = refl
kept_next core set sect b part k v good true e l vol s r =
    kept_in (aim_of set l core sect b part k v vol good r) e s core.phase r.follows

kept_copy : (core : State) (set : FileSet) (sect b part k : ℕ) (good : List Bool)
    (g : Bool) (item : TapeItem) → IsLawful set → IsSome (nth set.volumes k)
    → slice_get (items set k) (length good) ≡ Some item
    → IsReading set (Awaits sect b part) k good core
    → Wide.content_item core (cond g item bad) ≡ cond g item bad
kept_copy core set sect b part k good g item l vol s r = go (nth set.volumes k) refl vol
  where
    go : (o : Option Volume) → nth set.volumes k ≡ o → IsSome o
        → Wide.content_item core (cond g item bad) ≡ cond g item bad
    go None q h = absurd (cc)
    go (Some v) q h =
        let e = item_at (entries set k) (length good) item s in
        subst (λ z. Wide.content_item core (cond g z bad) ≡ cond g z bad) e.2
        (kept_next core set sect b part k v good g e.0 l q e.1 r)

content_copy : (core : State) (set : FileSet) (p : Position) (k : ℕ) (good : List Bool) (g : Bool)
    (item : TapeItem) → IsLawful set → IsSome (nth set.volumes k)
    → slice_get (items set k) (length good) ≡ Some item → IsReading set p k good core
    → Wide.content_step core (Some (cond g item bad))
    ≡ Table.step_of core (Some (cond g item bad))
content_copy core set (Awaits sect b part) k good g item l vol s r =
    ap (λ z. Wide.step_of core (Some z)) (kept_copy core set sect b part k good g item l vol s r)
    ∙ item_same core _ set (Awaits sect b part) k good g item l vol s refl r
content_copy core set Finished k good g item l vol s r =
    complete_same core core.phase core.position (Some (Wide.content_item core (cond g item bad)))
    r.follows
    ∙ any_item core (Wide.content_item core (cond g item bad)) (cond g item bad) r.follows

-- Over a copy of a volume of a valid set the two readings have the same steps,
pub by_copy : (wide : Bool) (core : State) (arrived : Option TapeItem) (set : FileSet)
    (p : Position) (k : ℕ) (good : List Bool) (g : Bool) (item : TapeItem) → IsLawful set
    → IsSome (nth set.volumes k) → slice_get (items set k) (length good) ≡ Some item
    → arrived ≡ Some (cond g item bad) → IsReading set p k good core
    → Wide.step_by wide core arrived ≡ Table.step_of core arrived
by_copy false core arrived set p k good g item l vol s a r = refl
by_copy true core arrived set p k good g item l vol s a r =
    subst (λ (z : Option TapeItem). Wide.content_step core z ≡ Table.step_of core z) (sym a)
    (content_copy core set p k good g item l vol s r)

complete_not : (core : State) (x : TapeItem) (p : Position) (out : Outcome) → p ≡ Finished
    → (Table.unless_complete core p out).0 ≢ Deliver
complete_not core x Finished out e = λ d. cc
complete_not core x (Awaits sect b part) out e = absurd (cc)

as_copied : (core : State) (set : FileSet) (p : Position) (k : ℕ) (good : List Bool) (g : Bool)
    (item : TapeItem) → IsLawful set → IsSome (nth set.volumes k)
    → slice_get (items set k) (length good) ≡ Some item → IsReading set p k good core
    → (Table.step_of core (Some (cond g item bad))).0 ≡ Deliver
    → Wide.content_item core (cond g item bad) ≡ cond g item bad
as_copied core set (Awaits sect b part) k good g item l vol s r d =
    kept_copy core set sect b part k good g item l vol s r
as_copied core set Finished k good g item l vol s r d =
    absurd (complete_not core item core.position _ r.follows d)

-- and a block that is delivered is read as it is.
pub as_copy : (wide : Bool) (core : State) (set : FileSet) (p : Position) (k : ℕ)
    (good : List Bool) (g : Bool) (item : TapeItem) → IsLawful set → IsSome (nth set.volumes k)
    → slice_get (items set k) (length good) ≡ Some item → IsReading set p k good core
    → (Table.step_of core (Some (cond g item bad))).0 ≡ Deliver
    → Wide.read_as wide core (cond g item bad) ≡ cond g item bad
as_copy false core set p k good g item l vol s r d = refl
as_copy true core set p k good g item l vol s r d =
    as_copied core set p k good g item l vol s r d

-- ---- behind a volume, and on a reel that does not belong to the set

none_left : (set : FileSet) (k : ℕ) (good : List Bool) (s : Section) (more : List Entry)
    (blocks : List Filled) → length good ≡ length (items set k)
    → Left set k good ((data_group blocks ++ trailer_group s) ++ more) → ⊥
none_left set k good s more [] all left =
    beyond left.done _ (entries set k) _ (length good) left.whole left.count
    (all ∙ length-map (entries set k) item_of)
none_left set k good s more (d ∷ rest) all left =
    beyond left.done _ (entries set k) _ (length good) left.whole left.count
    (all ∙ length-map (entries set k) item_of)

over_kept : (set : FileSet) (core : State) (sect b part k : ℕ) (good : List Bool) (x : TapeItem)
    → length good ≡ length (items set k) → (phase : Phase)
    → Follows set core.file sect b part k phase core.position good → Wide.item_by phase x ≡ x
over_kept set core sect b part k good x all (DataWanted heading form count) f =
    absurd (none_left set k good f.0.section (to_come f.1.inside.later) f.1.blocks all
    f.1.inside.left)
over_kept set core sect b part k good (block' bytes) all _ f = refl
over_kept set core sect b part k good mark all _ f = refl
over_kept set core sect b part k good bad all _ f = refl

content_behind : (core : State) (x : TapeItem) (set : FileSet) (p : Position) (k : ℕ)
    (good : List Bool) → length good ≡ length (items set k) → IsReading set p k good core
    → Wide.content_step core (Some x) ≡ Table.step_of core (Some x)
content_behind core x set (Awaits sect b part) k good all r =
    ap (λ z. Wide.step_of core (Some z)) (over_kept set core sect b part k good x all core.phase
    r.follows)
    ∙ behind_same core (Some x) set (Awaits sect b part) k good all r
content_behind core x set Finished k good all r =
    complete_same core core.phase core.position (Some (Wide.content_item core x)) r.follows
    ∙ any_item core (Wide.content_item core x) x r.follows

pub by_behind : (wide : Bool) (core : State) (arrived : Option TapeItem) (set : FileSet)
    (p : Position) (k : ℕ) (good : List Bool) → length good ≡ length (items set k)
    → IsReading set p k good core → Wide.step_by wide core arrived ≡ Table.step_of core arrived
by_behind false core arrived set p k good all r = refl
by_behind true core None set p k good all r = left_same core None refl
by_behind true core (Some x) set p k good all r = content_behind core x set p k good all r

foreign_kept : (set_id : List ℕ) (reel : List TapeItem) (x : TapeItem) (sect b part : ℕ)
    (phase : Phase) → IsForeignAt set_id reel (Awaits sect b part) phase
    → Wide.item_by phase x ≡ x
foreign_kept set_id reel x sect b part (DataWanted heading form count) f = absurd f
foreign_kept set_id reel (block' bytes) sect b part _ f = refl
foreign_kept set_id reel mark sect b part _ f = refl
foreign_kept set_id reel bad sect b part _ f = refl

content_foreign : (core : State) (x : TapeItem) (set_id : List ℕ) (reel : List TapeItem)
    (p : Position) → core.position ≡ p → IsForeignAt set_id reel core.position core.phase
    → Wide.content_step core (Some x) ≡ Table.step_of core (Some x)
content_foreign core x set_id reel (Awaits sect b part) e f =
    ap (λ z. Wide.step_of core (Some z)) (foreign_kept set_id reel x sect b part core.phase
    (subst (λ (p : Position). IsForeignAt set_id reel p core.phase) e f))
    ∙ foreign_same core set_id reel (Some x) f
content_foreign core x set_id reel Finished e f =
    complete_same core core.phase core.position (Some (Wide.content_item core x)) e
    ∙ any_item core (Wide.content_item core x) x e

pub by_foreign : (wide : Bool) (core : State) (arrived : Option TapeItem) (set_id : List ℕ)
    (reel : List TapeItem) → IsForeignAt set_id reel core.position core.phase
    → Wide.step_by wide core arrived ≡ Table.step_of core arrived
by_foreign false core arrived set_id reel f = refl
by_foreign true core None set_id reel f = left_same core None refl
by_foreign true core (Some x) set_id reel f =
    content_foreign core x set_id reel core.position refl f
