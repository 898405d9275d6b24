-- A foreign reel does not move the position.
use Rattle.std.proofs.Common.{◌≡◌, ℕ, List, ◌∷◌, Bool, true, false, cond, Option, Some, Result, Ok}
use Rattle.std.proofs.Common.{Err, refl, sym, ap, ◌∙◌, subst, ◌&&◌}
use Rattle.std.specs.Str.{bytes_eq}
use Rattle.tape_image.specs.Tape.{TapeItem, block, bad, mark}
use Rattle.tape_label.specs.{declared.values.Head1.Head1, declared.values.Kind.Kind, Kinds.kind_at}
use Rattle.tape_label.specs.{declared.label.LabelFault.LabelFault, Reading.head1_at}
use Rattle.tape_label.specs.VolumeLabels.{is_volume_label}
use Rattle.tape_label.specs.declared.values.Kind.TheVariants as kinds
use Rattle.tape_set.specs.{declared.position.Position.Position, Layout.FileSet}
use Rattle.tape_set.specs.declared.position.Position.TheVariants.{Awaits, Finished}
use Rattle.tape_core.specs.declared.event.Reason.TheVariants.{NotLabelled, OtherSet, BadItem}
use Rattle.tape_core.specs.Table.{Outcome, in_phase, useless, passed, at_item, at_head1}
use Rattle.tape_core.specs.Table.{first_label, first_labels, unless_complete, step_of, mounted}
use Rattle.tape_core.specs.Foreign.{is_of_set, labels_of_set, is_vol1, starts_set, IsForeignIn}
use Rattle.tape_core.specs.{declared.event.Reason.Reason, declared.event.Phase.Phase, Follows.IsAt}
use Rattle.tape_core.specs.declared.event.Reason.TheVariants.{ReelEnded, BadLabel}
use Rattle.tape_core.specs.declared.event.Phase.TheVariants.{Over, Broken, Volume, VolumeLabels}
use Rattle.tape_core.specs.{State.State, State.is_broken, Table.mount_of}
use Rattle.tape_core.specs.Foreign.{IsForeignAt, Unmoved}

module _ (set : FileSet) (core : State) (at : IsAt set core) (sect place part : ℕ)
    (waits : core.position ≡ Awaits sect place part) (rest : List TapeItem) where
  same : (phase : Phase) → is_broken phase ≡ false → IsAt set (in_phase core phase)
  same phase n = record { of_set = at.of_set; sound = n; stands = at.stands }

  waiting : (phase : Phase) → IsForeignIn set.set_id rest phase
      → IsForeignAt set.set_id rest core.position phase
  waiting phase h = subst (λ p. IsForeignAt set.set_id rest p phase) (sym waits) h

  useless_unmoved : (why : Reason) → Unmoved set rest core (useless core why)
  useless_unmoved why = record {
    at = same Over refl;
    same_file = refl;
    same_position = refl;
    silent = λ e. cc;
    foreign = waiting Over tt;
  }

  labels_unmoved : labels_of_set set.set_id rest ≡ false
      → Unmoved set rest core (passed core VolumeLabels)
  labels_unmoved h = record {
    at = same VolumeLabels refl;
    same_file = refl;
    same_position = refl;
    silent = λ e. cc;
    foreign = waiting VolumeLabels h;
  }

  head_unmoved : (o : Result Head1 LabelFault) → is_of_set set.set_id o ≡ false
      → Unmoved set rest core (at_head1 core o)
  head_unmoved (Err fault) h = useless_unmoved (BadLabel fault)
  head_unmoved (Ok x) h =
      let q : bytes_eq x.set_id core.set_id ≡ false = ap (λ z. bytes_eq x.set_id z) at.of_set ∙ h in
      rw q (useless_unmoved OtherSet)

  first_unmoved : (b : List ℕ) (o : Option Kind) → is_of_set set.set_id (head1_at b) ≡ false
      → Unmoved set rest core (first_labels core b o)
  first_unmoved b (Some kinds.Hdr1) h = head_unmoved (head1_at b) h
  first_unmoved b k h = useless_unmoved NotLabelled

  vol1_unmoved : (o : Option Kind) → (is_vol1 o && labels_of_set set.set_id rest) ≡ false
      → Unmoved set rest core (first_label core o)
  vol1_unmoved (Some kinds.Vol1) h = labels_unmoved h
  vol1_unmoved k h = useless_unmoved NotLabelled

  item_unmoved : (x : TapeItem) (phase : Phase) → IsForeignIn set.set_id (x ∷ rest) phase
      → Unmoved set rest core (at_item core phase x)
  item_unmoved (block b) Over h = useless_unmoved ReelEnded
  item_unmoved bad Over h = useless_unmoved ReelEnded
  item_unmoved mark Over h = useless_unmoved ReelEnded
  item_unmoved (block b) Volume h = vol1_unmoved (kind_at b) h
  item_unmoved bad Volume h = useless_unmoved BadItem
  item_unmoved mark Volume h = useless_unmoved NotLabelled
  item_unmoved (block b) VolumeLabels h = go (is_volume_label b) h
    where
      go : (t : Bool)
          → cond t (labels_of_set set.set_id rest) (is_of_set set.set_id (head1_at b)) ≡ false
          → Unmoved set rest core (cond t (passed core VolumeLabels)
          (first_labels core b (kind_at b)))
      go true g = labels_unmoved g
      go false g = first_unmoved b (kind_at b) g
  item_unmoved bad VolumeLabels h = useless_unmoved BadItem
  item_unmoved mark VolumeLabels h = useless_unmoved NotLabelled
  item_unmoved x phase h = absurd h

pub foreign_step : (core : State) (out : Outcome) (arrived : Option TapeItem)
    → out ≡ step_of core arrived → (set : FileSet) (item : TapeItem) (rest : List TapeItem)
    → arrived ≡ Some item → IsAt set core
    → IsForeignAt set.set_id (item ∷ rest) core.position core.phase → Unmoved set rest core out
foreign_step core out arrived is set item rest came at h = subst (λ z. Unmoved set rest core z)
    (sym (is ∙ ap (λ z. step_of core z) came)) (go core.position refl h)
  where
    go : (p : Position) → core.position ≡ p → IsForeignAt set.set_id (item ∷ rest) p core.phase
        → Unmoved set rest core (unless_complete core p (at_item core core.phase item))
    go Finished e g = record {
      at = at;
      same_file = refl;
      same_position = refl;
      silent = λ q. cc;
      foreign = subst (λ p. IsForeignAt set.set_id rest p core.phase) (sym e) tt;
    }
    go (Awaits sect place part) e g =
        item_unmoved set core at sect place part e rest item core.phase g

pub foreign_mount : (core new : State) → new ≡ mount_of core
    → (set : FileSet) (reel : List TapeItem) → IsAt set core → starts_set set.set_id reel ≡ false
    → IsForeignAt set.set_id reel new.position new.phase
foreign_mount core new is set reel at h =
    subst (λ z. IsForeignAt set.set_id reel z.position z.phase) (sym is)
    (go core.phase core.position at.sound)
  where
    go : (phase : Phase) (p : Position) → is_broken phase ≡ false
        → IsForeignAt set.set_id reel p (mounted phase p)
    go Broken (Awaits sect place part) n = absurd (cc)
    go phase (Awaits sect place part) n = h
    go phase Finished n = tt
