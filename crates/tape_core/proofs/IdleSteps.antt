-- Items that change nothing, after a complete reading.
use Rattle.std.proofs.Common.{◌≡◌, ℕ, List, length, Bool, true, Option, Some, None, refl, sym, ap}
use Rattle.std.proofs.{Common.◌∙◌, Common.subst, Common.IsSome, lemmas.List.length-map}
use Rattle.tape_image.specs.Tape.{TapeItem, block as a_block, bad, mark}
use Rattle.tape_set.specs.{declared.position.Position.Position, Lawful.IsLawful, Reach.passes}
use Rattle.tape_set.specs.declared.position.Position.TheVariants.{Awaits, Finished}
use Rattle.tape_set.specs.Layout.{FileSet, Volume, item_of, nth, entries, items}
use Rattle.tape_core.specs.{declared.event.Reason.Reason, declared.event.Phase.TheVariants.Over}
use Rattle.tape_core.specs.{declared.event.Reason.TheVariants.ReelEnded, State.State}
use Rattle.tape_core.specs.Table.{Outcome, useless, at_item, unless_complete, step_of}
use Rattle.tape_core.specs.Follows.{IsAt, Follows, IsReading, Idle}
use Rattle.tape_core.proofs.{Aim.aim_of, PositionSteps.whole_over}

pub idle_whole : (core : State) (set : FileSet) (p : Position) (k : ℕ) (good : List Bool)
    (x : TapeItem)
    → IsLawful set → IsSome (nth set.volumes k) → IsReading set p k good core
    → length good ≡ length (items set k) → passes good (entries set k) ≡ true
    → Idle set p k good core (step_of core (Some x))
idle_whole core set Finished k good x l vol r n q = go core.position r.follows
  where
    go : (c : Position) → c ≡ Finished
        → Idle set Finished k good core (unless_complete core c (at_item core core.phase x))
    go Finished h = record { reads = r; same_file = refl; same_position = refl; silent = λ e. cc }
    go (Awaits a b c) h = absurd (cc)
idle_whole core set (Awaits sect block part) k good x l vol r n q = go core.position
  where
    over_at : (o : Option Volume) → nth set.volumes k ≡ o → IsSome o → core.phase ≡ Over
    over_at None e s = absurd (cc)
    over_at (Some v) e s = whole_over (aim_of set l core sect block part k v e good r) core.phase
        r.follows (n ∙ length-map (entries set k) item_of) q

    over : core.phase ≡ Over
    over = over_at (nth set.volumes k) refl vol

    a : IsAt set core
    a = r.at

    useless_idle : (why : Reason) → Idle set (Awaits sect block part) k good core (useless core why)
    useless_idle why = record {
      reads = record {
        from = r.from;
        at = record { of_set = a.of_set; sound = refl; stands = a.stands };
        follows = subst (λ z. Follows set core.file sect block part k z core.position good)
            over r.follows;
      };
      same_file = refl;
      same_position = refl;
      silent = λ e. cc;
    }

    at_over : (y : TapeItem) → Idle set (Awaits sect block part) k good core (at_item core Over y)
    at_over (a_block b) = useless_idle ReelEnded
    at_over bad = useless_idle ReelEnded
    at_over mark = useless_idle ReelEnded

    go : (c : Position)
        → Idle set (Awaits sect block part) k good core (unless_complete core c
        (at_item core core.phase x))
    go Finished = record { reads = r; same_file = refl; same_position = refl; silent = λ e. cc }
    go (Awaits u d c) =
        subst (λ z. Idle set (Awaits sect block part) k good core (at_item core z x))
        (sym over) (at_over x)

pub idle_reads : (core : State) (out : Outcome) (arrived : Option TapeItem)
    → out ≡ step_of core arrived → (set : FileSet) (p : Position) (k : ℕ) (good : List Bool)
    (item : TapeItem) → IsLawful set → IsSome (nth set.volumes k)
    → length good ≡ length (items set k) → passes good (entries set k) ≡ true → arrived ≡ Some item
    → IsReading set p k good core → Idle set p k good core out
idle_reads core out arrived is set p k good item l vol n h came r =
    subst (λ z. Idle set p k good core z) (sym (is ∙ ap (λ z. step_of core z) came))
    (idle_whole core set p k good item l vol r n h)
