-- Each step preserves the relation between the state and the reading.
use Rattle.std.proofs.Common.{◌≡◌, ℕ, zero, suc, List, [], ◌∷◌, ◌++◌, length, Bool, true, false}
use Rattle.std.proofs.Common.{cond, Option, Some, None, refl, sym, ap, ◌∙◌, subst, append_assoc}
use Rattle.std.proofs.Common.{slice_get, map, IsSome}
use Rattle.tape_image.specs.Tape.{TapeItem, bad}
use Rattle.tape_set.specs.{declared.position.Position.Position, Before.IsIn, Lawful.IsLawful}
use Rattle.tape_set.specs.declared.position.Position.TheVariants.{Awaits, Finished}
use Rattle.tape_set.specs.Layout.{FileSet, Volume, Entry, item_of, nth, entries, items}
use Rattle.tape_set.specs.Reach.{far}
use Rattle.tape_core.specs.declared.event.Phase.TheVariants.{Over, Broken, DataWanted}
use Rattle.tape_core.specs.{declared.event.Phase.Phase, State.State, State.is_broken}
use Rattle.tape_core.specs.declared.event.Phase.TheVariants.{TrailerWanted}
use Rattle.tape_core.specs.Table.{Outcome, at_item, unless_complete, step_of, mount_of, mounted}
use Rattle.tape_core.specs.Follows.{IsAt, reading, Follows, FollowsFrom, IsReading, Kept}
use Rattle.tape_core.proofs.{Lists.stopped_waits, Aim.aim_of, HeaderSteps.Next, BadSteps.bad_next}
use Rattle.tape_core.proofs.{GoodSteps.good_next, PositionSteps.position_is}

-- at the end of the file no reading is in progress
complete_over : (set : FileSet) (file sect block part k : ℕ) (good : List Bool)
    (phase : Phase) (position : Position)
    → position ≡ Finished → Follows set file sect block part k phase position good → phase ≡ Over
complete_over set file sect block part k good Over position q h = refl
complete_over set file sect block part k good Broken position q h = absurd h
complete_over set file sect block part k good (DataWanted heading known count) position q h =
    absurd (stopped_waits sect block part _ (sym q ∙ h.1.awaited))
complete_over set file sect block part k good (TrailerWanted heading known) position q h =
    absurd (stopped_waits sect block part _ (sym q ∙ h.1.awaited))
complete_over set file sect block part k good phase position q h =
    absurd (let d = sym q ∙ h.0 in cc)

-- at the end of the file, further items of the reading do not matter
over_complete : (set : FileSet) (file sect block part k : ℕ) (good : List Bool)
    (phase : Phase) (position : Position)
    → position ≡ Finished → Follows set file sect block part k phase position good
    → (gs more : List Bool)
    → far set file (Awaits sect block part) (reading k ((good ++ gs) ++ more)) ≡ position
over_complete set file sect block part k good phase position q h gs more =
    let over : Follows set file sect block part k Over position good =
    subst (λ z. Follows set file sect block part k z position good)
    (complete_over set file sect block part k good phase position q h) h in
    rw append_assoc (over (gs ++ more))

-- a complete file remains complete
stays_complete : (set : FileSet) (file sect block part k : ℕ) (good : List Bool)
    (g : Bool) (phase : Phase) (position : Position)
    → position ≡ Finished → Follows set file sect block part k phase position good
    → Follows set file sect block part k phase position (good ++ g ∷ [])
stays_complete set file sect block part k good g phase position q h =
    subst (λ z. Follows set file sect block part k z position (good ++ g ∷ []))
    (sym (complete_over set file sect block part k good phase position q h))
    (over_complete set file sect block part k good phase position q h (g ∷ []))

-- The complete law of a step.
step_from : (set : FileSet) (l : IsLawful set) (core : State) (sect block part k : ℕ) (v : Volume)
    → nth set.volumes k ≡ Some v
    → (good : List Bool) (g : Bool) (e : Entry) → slice_get (entries set k) (length good) ≡ Some e
    → IsReading set (Awaits sect block part) k good core
    → (q : Position) → core.position ≡ q
    → Kept set (Awaits sect block part) k (good ++ g ∷ []) (cond g (item_of e) bad) core
    (unless_complete core q (at_item core core.phase (cond g (item_of e) bad)))
step_from set l core sect block part k v vol good g e s r (Awaits a b c) q = go g (pick g)
  where
    pick : (g' : Bool)
        → Next (aim_of set l core sect block part k v vol good r) g'
        (at_item core core.phase (cond g' (item_of e) bad))
    pick true = good_next _ core.phase r.follows e s
    pick false = bad_next _ core.phase r.follows e s

    go : (g' : Bool)
        → Next (aim_of set l core sect block part k v vol good r) g'
        (at_item core core.phase (cond g' (item_of e) bad))
        → Kept set (Awaits sect block part) k (good ++ g' ∷ []) (cond g'
        (item_of e) bad) core (at_item core core.phase (cond g' (item_of e) bad))
    go g' n =
        let out : Outcome = at_item core core.phase (cond g' (item_of e) bad) in
        record {
          reads = record {
            from = subst (λ f. IsIn set f (Awaits sect block part)) (sym n.same) r.from;
            at = n.fits;
            follows = subst (λ f. Follows set f sect block part k out.1.phase out.1.position
                (good ++ g' ∷ [])) (sym n.same) n.follows;
          };
          same_file = n.same;
          gives = n.gives e s;
          done = λ f. subst (λ z. (more : List Bool) → far set z (Awaits sect block part) (reading k
              ((good ++ g' ∷ []) ++ more)) ≡ out.1.position) (sym n.same) (n.done f);
        }
step_from set l core sect block part k v vol good g e s r Finished q =
    record {
      reads = record {
        from = r.from;
        at = r.at;
        follows = stays_complete set core.file sect block part k good g core.phase core.position
            q r.follows;
      };
      same_file = refl;
      gives = refl;
      done = λ f. over_complete set core.file sect block part k good core.phase core.position q
          r.follows (g ∷ []);
    }

-- Whatever item a valid volume has next, readable or bad, the state after the step follows the
-- longer reading.
pub step_keeps : (set : FileSet) (p : Position) (k : ℕ) (v : Volume) (good : List Bool)
    (g : Bool) (e : Entry) (core : State)
    → IsLawful set → nth set.volumes k ≡ Some v → slice_get (entries set k) (length good) ≡ Some e
    → IsReading set p k good core
    → Kept set p k (good ++ g ∷ []) (cond g (item_of e) bad) core (step_of core
    (Some (cond g (item_of e) bad)))
step_keeps set Finished k v good g e core l vol s r = go core.position r.follows
  where
    go : (q : Position) → q ≡ Finished
        → Kept set Finished k (good ++ g ∷ []) (cond g (item_of e) bad) core (unless_complete core q
        (at_item core core.phase (cond g (item_of e) bad)))
    go Finished h = record {
      reads = record { from = r.from; at = r.at; follows = r.follows };
      same_file = refl;
      gives = refl;
      done = λ f more. sym r.follows;
    }
    go (Awaits a b c) h = absurd (cc)
step_keeps set (Awaits sect block part) k v good g e core l vol s r =
    step_from set l core sect block part k v vol good g e s r core.position refl

-- the position is the one that `far` gives for the items read
pub reading_position : (set : FileSet) (p : Position) (k : ℕ) (v : Volume) (good : List Bool)
    (core : State)
    → IsLawful set → nth set.volumes k ≡ Some v → IsReading set p k good core
    → core.position ≡ far set core.file p (reading k good)
reading_position set Finished k v good core l vol r = r.follows
reading_position set (Awaits sect block part) k v good core l vol r =
    position_is (aim_of set l core sect block part k v vol good r) core.phase r.follows

mounted_sound : (phase : Phase) (p : Position) → is_broken phase ≡ false
    → is_broken (mounted phase p) ≡ false
mounted_sound Broken p n = n
mounted_sound phase Finished n = refl
mounted_sound phase (Awaits s b c) n = refl

mounted_follows : (set : FileSet) (file k : ℕ) (phase : Phase) (p : Position)
    → is_broken phase ≡ false → FollowsFrom set file p k [] (mounted phase p) p
mounted_follows set file k Broken Finished n = absurd (cc)
mounted_follows set file k phase Finished n = refl
mounted_follows set file k Broken (Awaits s b c) n = absurd (cc)
mounted_follows set file k phase (Awaits s b c) n = (refl, refl)

pub mount_reads : (set : FileSet) (k : ℕ) (core : State) → IsAt set core
    → IsReading set core.position k [] (mount_of core)
mount_reads set k core at = record {
  from = at.stands.inside;
  at = record {
    of_set = at.of_set;
    sound = mounted_sound core.phase core.position at.sound;
    stands = at.stands;
  };
  follows = mounted_follows set core.file k core.phase core.position at.sound;
}

-- the item at an index is that of the entry there
pub item_at : (xs : List Entry) (n : ℕ) (item : TapeItem) → slice_get (map item_of xs) n ≡ Some item
    → (e : Entry) × (slice_get xs n ≡ Some e) × (item_of e ≡ item)
item_at [] n item h = absurd (cc)
item_at (x ∷ xs) zero item h = (x, refl, cc)
item_at (x ∷ xs) (suc n) item h = item_at xs n item h

-- the same for an outcome and an item given by equations
pub step_reads : (core : State) (out : Outcome) (arrived : Option TapeItem)
    → out ≡ step_of core arrived → (set : FileSet) (p : Position) (k : ℕ) (good : List Bool)
    (g : Bool) (item : TapeItem) → IsLawful set → IsSome (nth set.volumes k)
    → slice_get (items set k) (length good) ≡ Some item → arrived ≡ Some (cond g item bad)
    → IsReading set p k good core → Kept set p k (good ++ g ∷ []) (cond g item bad) core out
step_reads core out arrived is set p k good g item l vol s a r = go (nth set.volumes k) refl vol
  where
    go : (o : Option Volume) → nth set.volumes k ≡ o → IsSome o
        → Kept set p k (good ++ g ∷ []) (cond g item bad) core out
    go None q h = absurd (cc)
    go (Some v) q h =
        let e = item_at (entries set k) (length good) item s in
        let a' : arrived ≡ Some (cond g (item_of e.0) bad) =
        a ∙ ap (λ z. Some (cond g z bad)) (sym e.2) in
        let kept : Kept set p k (good ++ g ∷ []) (cond g (item_of e.0) bad) core out =
        subst (λ z. Kept set p k (good ++ g ∷ []) (cond g (item_of e.0) bad) core z)
        (sym (is ∙ ap (λ z. step_of core z) a')) (step_keeps set p k v good g e.0 core l q e.1 r) in
        subst (λ z. Kept set p k (good ++ g ∷ []) (cond g z bad) core out) e.2 kept

pub position_reads : (core : State) (set : FileSet) (p : Position) (k : ℕ) (good : List Bool)
    → IsLawful set → IsSome (nth set.volumes k) → IsReading set p k good core
    → core.position ≡ far set core.file p (reading k good)
position_reads core set p k good l vol r = go (nth set.volumes k) refl vol
  where
    go : (o : Option Volume) → nth set.volumes k ≡ o → IsSome o
        → core.position ≡ far set core.file p (reading k good)
    go None q h = absurd (cc)
    go (Some v) q h = reading_position set p k v good core l q r

-- ---- the same for outcomes given by equations

pub mounts : (core new : State) → new ≡ mount_of core → (set : FileSet) (k : ℕ) → IsAt set core
    → IsReading set core.position k [] new
mounts core new is set k at =
    subst (λ z. IsReading set core.position k [] z) (sym is) (mount_reads set k core at)
