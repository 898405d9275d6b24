-- On the volumes of a valid set, and on reels that do not belong to it, a step of the wider reading
-- is that of the table; and so it is at the end of a reel.
use Rattle.std.proofs.Common.{◌≡◌, ℕ, List, ◌∷◌, ◌++◌, length, Bool, true, false, cond, Option}
use Rattle.std.proofs.Common.{Some, None, Ok, refl, sym, ap, subst, ◌∙◌, slice_get, IsSome}
use Rattle.std.proofs.Common.{arith, length-append}
use Rattle.std.proofs.lemmas.List.{length-map}
use Rattle.tape_image.specs.Tape.{TapeItem, block, bad}
use Rattle.tape_label.specs.declared.values.Kind.TheVariants as kinds
use Rattle.tape_label.specs.declared.values.Head2.{Head2}
use Rattle.tape_label.specs.{Kinds.kind_at, Reading.head2_at, Head2.IsHead2}
use Rattle.tape_label.proofs.{Apart.kind_again, Second.head2_again, Wide.wide_as_strict}
use Rattle.tape_set.specs.{declared.position.Position.Position, Lawful.IsLawful}
use Rattle.tape_set.specs.declared.position.Position.TheVariants.{Awaits, Finished}
use Rattle.tape_set.specs.Layout.{FileSet, Volume, Entry, a_label, item_of, nth, entries, items}
use Rattle.tape_core.specs.declared.event.{Heading.Heading, Phase.Phase}
use Rattle.tape_core.specs.declared.event.Phase.TheVariants.{Header2}
use Rattle.tape_core.specs.{State.State, Table.at_head2, Foreign.IsForeignAt}
use Rattle.tape_core.specs.Follows.{IsReading, Follows}
use Rattle.tape_core.specs.Table as Table
use Rattle.tape_core.specs.Wide as Wide
use Rattle.tape_core.proofs.{Aim.aim_of, Steps.item_at, Fronts.first_left}
use Rattle.tape_core.proofs.AwaitedSection.{tells_each}

-- a second label that the strict reading accepts
label_same : (core : State) (heading : Heading) (wanted : Bool) (bytes : List ℕ) (h : Head2)
    → IsHead2 bytes kinds.Hdr2 h
    → Wide.second_label core heading wanted bytes (kind_at bytes)
    ≡ Table.second_label core heading wanted bytes (kind_at bytes)
label_same core heading false bytes h is = rw (kind_again bytes kinds.Hdr2 is.kind) refl
label_same core heading true bytes h is =
    let e : head2_at bytes ≡ Ok h = head2_again bytes kinds.Hdr2 h is in
    rw (kind_again bytes kinds.Hdr2 is.kind)
    (ap (at_head2 core heading) (wide_as_strict bytes h e ∙ sym e))

-- ---- items for which the phase does not matter

bad_same : (core : State) (phase : Phase) (p : Position)
    → Wide.by_phase core phase p (Some bad) ≡ Table.step_of core (Some bad)
bad_same core (Header2 heading wanted) (Awaits sect b part) = refl
bad_same core _ _ = refl

none_same : (core : State) (phase : Phase) (p : Position)
    → Wide.by_phase core phase p None ≡ Table.step_of core None
none_same core (Header2 heading wanted) (Awaits sect b part) = refl
none_same core _ _ = refl

pub left_same : (core : State) (arrived : Option TapeItem) → arrived ≡ None
    → Wide.step_of core arrived ≡ Table.step_of core arrived
left_same core arrived e =
    subst (λ (z : Option TapeItem). Wide.step_of core z ≡ Table.step_of core z) (sym e)
    (none_same core core.phase core.position)

complete_same : (core : State) (phase : Phase) (arrived : Option TapeItem)
    → Wide.by_phase core phase Finished arrived ≡ Table.step_of core arrived
complete_same core (Header2 heading wanted) arrived = refl
complete_same core _ arrived = refl

-- ---- the next item of a volume

entry_same : (set : FileSet) (l : IsLawful set) (core : State) (sect b part k : ℕ) (v : Volume)
    (vol : nth set.volumes k ≡ Some v) (good : List Bool) (e : Entry)
    → slice_get (entries set k) (length good) ≡ Some e
    → (r : IsReading set (Awaits sect b part) k good core)
    → (phase : Phase) → core.phase ≡ phase
    → Follows set core.file sect b part k phase core.position good
    → (p : Position) → core.position ≡ p
    → Wide.by_phase core phase p (Some (item_of e)) ≡ Table.step_of core (Some (item_of e))
entry_same set l core sect b part k v vol good e s r (Header2 heading wanted) at f (Awaits i j m)
    q =
    let aim = aim_of set l core sect b part k v vol good r in
    let x = f.1 in
    let form = tells_each aim x f.2.later f.2.among in
    let same = label_same core heading wanted x.section.hdr2 form.1.second form.1.hdr2 in
    let strict : Table.step_of core (Some (block x.section.hdr2))
    ≡ Table.second_label core heading wanted x.section.hdr2 (kind_at x.section.hdr2) =
    rw (q, at) refl in
    subst (λ (z : Entry). Wide.at_second core heading wanted (Some (item_of z))
    ≡ Table.step_of core (Some (item_of z)))
    (first_left set k good e (a_label x.section.hdr2) _ f.2.left s) (same ∙ sym strict)
entry_same set l core sect b part k v vol good e s r (Header2 heading wanted) at f Finished q = refl
entry_same set l core sect b part k v vol good e s r _ at f _ q = refl

next_same : (set : FileSet) (l : IsLawful set) (core : State) (p : Position) (k : ℕ) (v : Volume)
    (vol : nth set.volumes k ≡ Some v) (good : List Bool) (g : Bool) (e : Entry)
    → slice_get (entries set k) (length good) ≡ Some e → IsReading set p k good core
    → Wide.step_of core (Some (cond g (item_of e) bad))
    ≡ Table.step_of core (Some (cond g (item_of e) bad))
next_same set l core p k v vol good false e s r = bad_same core core.phase core.position
next_same set l core Finished k v vol good true e s r =
    subst (λ (q : Position). Wide.by_phase core core.phase q (Some (item_of e))
    ≡ Table.step_of core (Some (item_of e))) (sym r.follows)
    (complete_same core core.phase (Some (item_of e)))
next_same set l core (Awaits sect b part) k v vol good true e s r =
    entry_same set l core sect b part k v vol good e s r core.phase refl r.follows core.position
    refl

pub item_same : (core : State) (arrived : Option TapeItem) (set : FileSet) (p : Position) (k : ℕ)
    (good : List Bool) (g : Bool) (item : TapeItem) → IsLawful set → IsSome (nth set.volumes k)
    → slice_get (items set k) (length good) ≡ Some item → arrived ≡ Some (cond g item bad)
    → IsReading set p k good core → Wide.step_of core arrived ≡ Table.step_of core arrived
item_same core arrived set p k good g item l vol s a r = go (nth set.volumes k) refl vol
  where
    go : (o : Option Volume) → nth set.volumes k ≡ o → IsSome o
        → Wide.step_of core arrived ≡ Table.step_of core arrived
    go None q h = absurd (cc)
    go (Some v) q h =
        let e = item_at (entries set k) (length good) item s in
        let a' : arrived ≡ Some (cond g (item_of e.0) bad) =
        a ∙ ap (λ z. Some (cond g z bad)) (sym e.2) in
        subst (λ (z : Option TapeItem). Wide.step_of core z ≡ Table.step_of core z) (sym a')
        (next_same set l core p k v q good g e.0 e.1 r)

-- ---- behind the end of a volume

pub beyond : (done todo all : List Entry) (e : Entry) (n : ℕ) → done ++ e ∷ todo ≡ all
    → length done ≡ n → n ≡ length all → ⊥
beyond done todo all e n whole count same =
    omega (arith, ap length whole, length-append done (e ∷ todo), count, same)

over_same : (set : FileSet) (core : State) (sect b part k : ℕ) (good : List Bool)
    (arrived : Option TapeItem) → length good ≡ length (items set k)
    → (phase : Phase) (p : Position) → Follows set core.file sect b part k phase core.position good
    → Wide.by_phase core phase p arrived ≡ Table.step_of core arrived
over_same set core sect b part k good arrived all (Header2 heading wanted) (Awaits i j m) f =
    let left = f.2.left in
    absurd (beyond left.done _ (entries set k) _ (length good) left.whole left.count
    (all ∙ length-map (entries set k) item_of))
over_same set core sect b part k good arrived all (Header2 heading wanted) Finished f = refl
over_same set core sect b part k good arrived all _ _ f = refl

pub behind_same : (core : State) (arrived : Option TapeItem) (set : FileSet) (p : Position) (k : ℕ)
    (good : List Bool) → length good ≡ length (items set k) → IsReading set p k good core
    → Wide.step_of core arrived ≡ Table.step_of core arrived
behind_same core arrived set Finished k good all r =
    subst (λ (q : Position). Wide.by_phase core core.phase q arrived
    ≡ Table.step_of core arrived) (sym r.follows) (complete_same core core.phase arrived)
behind_same core arrived set (Awaits sect b part) k good all r =
    over_same set core sect b part k good arrived all core.phase core.position r.follows

-- ---- reels that do not belong to the set

foreign_by : (core : State) (set_id : List ℕ) (reel : List TapeItem) (arrived : Option TapeItem)
    (phase : Phase) (p : Position) → IsForeignAt set_id reel p phase
    → Wide.by_phase core phase p arrived ≡ Table.step_of core arrived
foreign_by core set_id reel arrived (Header2 heading wanted) (Awaits i j m) f = absurd f
foreign_by core set_id reel arrived (Header2 heading wanted) Finished f = refl
foreign_by core set_id reel arrived _ _ f = refl

pub foreign_same : (core : State) (set_id : List ℕ) (reel : List TapeItem)
    (arrived : Option TapeItem) → IsForeignAt set_id reel core.position core.phase
    → Wide.step_of core arrived ≡ Table.step_of core arrived
foreign_same core set_id reel arrived f =
    foreign_by core set_id reel arrived core.phase core.position f
