-- A reading of a later file continues from reel to reel.
use Rattle.std.proofs.Common.{◌≡◌, ℕ, Bool, inl, inr, List, [], ◌∷◌, ◌++◌, false, Some, refl, sym}
use Rattle.std.proofs.Common.{ap}
use Rattle.std.proofs.Common.{subst, ◌∙◌}
use Rattle.std.specs.List.{AllByRecursion}
use Rattle.tape_image.specs.{Tape.TapeItem, Begins.Walks}
use Rattle.tape_set.specs.declared.position.Position.{Position}
use Rattle.tape_set.specs.declared.position.Position.TheVariants.{Awaits, Finished}
use Rattle.tape_core.specs.{declared.event.Answer.TheVariants.Passed, declared.event.Phase.Phase}
use Rattle.tape_core.specs.{declared.event.Phase.TheVariants.Broken, Known.is_finished, State.State}
use Rattle.tape_core.specs.Table.{Outcome, passed, mount_of, unless_complete, at_reel_end}
use Rattle.tape_core.specs.Wide.{step_by}
use Rattle.tape_core.proofs.WideReading.{by_end}
use Rattle.tape_run.specs.Reels.{behind_items, answers_to, GoesOn, ReadsReel}
use Rattle.tape_run.specs.GoesBehind.{EndsSection, LeavesBehind}
use Rattle.tape_run.specs.declared.reel_reader.ReelAnswer.{ReelAnswer}
use Rattle.tape_run.proofs.{ByTable.behind_app, GoesBehind.still_waits}

-- ---- from reel to reel

-- the end of a reel completes no section
no_end : (core : State) (q : Position) (p : Phase) → is_finished q ≡ false
    → EndsSection (unless_complete core q (at_reel_end core p)).0 → ⊥
no_end core Finished p waits ends = absurd (cc)
no_end core (Awaits sect b part) Broken waits (inl e) = absurd (cc)
no_end core (Awaits sect b part) Broken waits (inr e) = absurd (cc)
no_end core (Awaits sect b part) _ waits (inl e) = absurd (cc)
no_end core (Awaits sect b part) _ waits (inr e) = absurd (cc)

waits_on : (wide : Bool) (core : State) (xs : List TapeItem) → is_finished core.position ≡ false
    → AllByRecursion GoesOn (answers_to wide core xs)
    → is_finished (behind_items wide core xs).position ≡ false
waits_on wide core [] waits on = waits
waits_on wide core (x ∷ xs) waits (on, rest) = waits_on wide (step_by wide core (Some x)).1 xs
    (still_waits wide core x (step_by wide core (Some x)).1.position refl on) rest

-- the items of a reel up to one that completed a section, and that item
pub record EndedWell (wide : Bool) (core : State) (bytes left : List ℕ) : Type 0 where
  pub items : List TapeItem
  pub item : TapeItem
  pub at : ℕ
  pub on : AllByRecursion GoesOn (answers_to wide core items)
  pub ended : EndsSection (step_by wide (behind_items wide core items) (Some item)).0
  pub taken : Walks 0 bytes (items ++ item ∷ []) at left

pub ended_well : (wide : Bool) (core new : State) (bytes left : List ℕ) (answer : ReelAnswer)
    → is_finished core.position ≡ false → ReadsReel wide core bytes left answer new
    → EndsSection answer.answer → EndedWell wide core bytes left
ended_well wide core new bytes left answer waits r ends = elim r.ended [
  | inl e ↦ record {
    items = r.items;
    item = e.item;
    at = e.at;
    on = r.on;
    ended = subst EndsSection (ap (λ (z : Outcome). z.0) e.last) ends;
    taken = e.taken;
  }
  | inr (inl e) ↦ absurd (no_end (behind_items wide core r.items)
      (behind_items wide core r.items).position
      (behind_items wide core r.items).phase (waits_on wide core r.items waits r.on)
      (subst EndsSection (ap (λ (z : Outcome). z.0)
      (e.last ∙ by_end wide (behind_items wide core r.items))) ends))
  | inr (inr e) ↦ absurd (no_end (behind_items wide core r.items)
      (behind_items wide core r.items).position
      (behind_items wide core r.items).phase (waits_on wide core r.items waits r.on)
      (subst EndsSection (ap (λ (z : Outcome). z.0)
      (e.last ∙ by_end wide (behind_items wide core r.items))) ends))
]

passed_goes_on : (wide : Bool) (core : State) (xs ys : List TapeItem)
    → AllByRecursion (λ a. a ≡ Passed) (answers_to wide core xs)
    → AllByRecursion GoesOn (answers_to wide (behind_items wide core xs) ys)
    → AllByRecursion GoesOn (answers_to wide core (xs ++ ys))
passed_goes_on wide core [] ys passed on = on
passed_goes_on wide core (x ∷ xs) ys (one, rest) on =
    (inl one, passed_goes_on wide (step_by wide core (Some x)).1 xs ys rest on)

waits_over : (wide : Bool) (core : State) (xs : List TapeItem) → is_finished core.position ≡ false
    → AllByRecursion (λ a. a ≡ Passed) (answers_to wide core xs)
    → is_finished (behind_items wide core xs).position ≡ false
waits_over wide core [] waits over = waits
waits_over wide core (x ∷ xs) waits (one, rest) = waits_over wide (step_by wide core (Some x)).1 xs
    (still_waits wide core x (step_by wide core (Some x)).1.position refl (inl one)) rest

pub leaves_behind : LeavesBehind
leaves_behind wide core start new front bytes left answer waits sound over r ends =
    let e = ended_well wide _ _ _ _ _ (subst (λ (z : State). is_finished z.position
    ≡ false) over.behind
    (waits_over wide (mount_of core) front waits over.answers)) r ends in (
      e.items,
      e.item,
      e.at,
      record {
        sound = sound;
        on = passed_goes_on wide _ _ e.items over.answers (subst
            (λ (z : State). AllByRecursion GoesOn (answers_to wide z e.items))
            (sym over.behind) e.on);
        ended = subst (λ (z : State). EndsSection (step_by wide z (Some e.item)).0)
            (sym (behind_app wide
            (mount_of core) front e.items ∙ ap
            (λ (z : State). behind_items wide z e.items) over.behind))
            e.ended;
      },
      e.taken,
    )
