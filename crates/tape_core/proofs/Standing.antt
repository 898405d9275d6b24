-- The states after the end of a reel, after a mount, and after a restart, whatever was read.
use Rattle.std.proofs.Common.{◌≡◌, ℕ, List, false, Option, None, refl, sym, ap, ◌∙◌, subst}
use Rattle.tape_image.specs.Tape.{TapeItem}
use Rattle.tape_set.specs.{declared.position.Position.Position, Layout.FileSet, Before.before}
use Rattle.tape_set.specs.declared.position.Position.TheVariants.{Awaits, Finished}
use Rattle.tape_core.specs.{declared.event.Phase.Phase, Point.Point, State.State, State.is_broken}
use Rattle.tape_core.specs.declared.event.Phase.TheVariants.{Over, Broken}
use Rattle.tape_core.specs.Follows.{IsFinal, IsAt, StandsAt}
use Rattle.tape_core.specs.Stands.{Stands, weight_of}
use Rattle.tape_core.specs.Place.{resting, rest_of, place_of, IsPlaced}
use Rattle.tape_core.specs.Table.{Outcome, in_phase, at_reel_end, unless_complete, step_of, saved}
use Rattle.tape_blocks.specs.Block.{Portion}

-- ---- the end of the reel

pub record Left (core : State) (out : Outcome) : Type 0 where
  pub stand : rest_of out.1 ≡ rest_of core
  pub final : IsFinal out.0

rest_as : (core : State) (phase : Phase) → core.phase ≡ phase
    → in_phase core (resting phase) ≡ rest_of core
rest_as core phase e = ap (λ z. in_phase core (resting z)) (sym e)

left_at : (core : State) (phase : Phase) → core.phase ≡ phase → Left core (at_reel_end core phase)
left_at core Over e = record { stand = rest_as core Over e; final = tt }
left_at core phase e = record { stand = rest_as core phase e; final = tt }

left_unless : (core : State) (p : Position) (out : Outcome) → Left core out
    → Left core (unless_complete core p out)
left_unless core Finished out s = record { stand = refl; final = tt }
left_unless core (Awaits sect b part) out s = s

pub reel_left : (core : State) (out : Outcome) (arrived : Option TapeItem)
    → out ≡ step_of core arrived → arrived ≡ None → (rest_of out.1 ≡ rest_of core) × IsFinal out.0
reel_left core out arrived is e =
    let there = subst (λ z. Left core z) (sym (is ∙ ap (step_of core) e))
    (left_unless core core.position (at_reel_end core core.phase) (left_at core core.phase refl)) in
    (there.stand, there.final)

-- ---- a mount

-- ---- moving to a checkpoint

-- ---- a reader with no reading in progress

resting_sound : (phase : Phase) → is_broken phase ≡ false → is_broken (resting phase) ≡ false
resting_sound Broken e = e
resting_sound phase e = refl

sound_again : (phase : Phase) → is_broken (resting phase) ≡ false → is_broken phase ≡ false
sound_again Broken e = e
sound_again phase e = refl

pub rests : (set : FileSet) (core : State) → IsAt set core → IsAt set (rest_of core)
rests set core a =
    record { of_set = a.of_set; sound = resting_sound core.phase a.sound; stands = a.stands }

pub rested : (set : FileSet) (core : State) → IsAt set (rest_of core) → IsAt set core
rested set core a =
    record { of_set = a.of_set; sound = sound_again core.phase a.sound; stands = a.stands }

-- a valid checkpoint is a reader with parts, and conversely
pub stood : (set : FileSet) (file : ℕ) (c : Point) (parts : List Portion) → Stands set file c parts
    → IsPlaced set (place_of c) parts
stood set file c parts s = record {
  at = record {
    of_set = s.of_set;
    sound = refl;
    stands = subst (λ f. StandsAt set f c.position c.begun c.known) (sym s.of_file) s.there;
  };
  all = subst (λ f. parts ≡ before set f c.position) (sym s.of_file) s.all;
}

pub noted : (set : FileSet) (core : State) (parts : List Portion) → IsPlaced set core parts
    → Stands set core.file (saved core (weight_of parts)) parts
noted set core parts a =
    record { of_set = a.at.of_set; of_file = refl; there = a.at.stands; all = a.all; staged = refl }
