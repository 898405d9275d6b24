-- Proofs of the test cases for the contents of the tapes after a refusal.
use Rattle.tape_writer.proofs.Words.{◌≡◌, ◌≢◌, ◌⊎◌, ℕ, List, [], ◌∷◌, ◌++◌, Option, inl, inr}
use Rattle.tape_writer.proofs.Words.{length, refl, sym, subst, AllByRecursion, TapeItem, Head1}
use Rattle.tape_writer.proofs.{Words.Shape, ExamplesOfInputs.in_first}
use Rattle.tape_writer.specs.Front.{behind_steps, HoldsFront, IsLeftBehind, IsLeftWhole, Step, Item}
use Rattle.tape_writer.specs.{declared.fault.SetFault.SetFault, LeftOf.IsLeftOf, LeftOf.IsLeftOfAll}
use Rattle.tape_writer.specs.{declared.inputs.cut.Cut.Cut, Told.Told, CasesOfFronts.CasesOfFronts}
use Rattle.tape_writer.specs.{declared.fault.WriteFault.TheVariants.OutOfMemory, State.SetState}
use Rattle.tape_writer.specs.declared.fault.SetFault.TheVariants.{Write, ReadFailed}
use Rattle.tape_writer.specs.{Front.Change, Front.Close, Front.behind_step, WriteFaults.IsOfInput}
use Rattle.tape_writer.specs.Records.{IsFirstLong}
use Rattle.tape_writer.specs.Tapes.{Tapes, UnderWay, Ended, all_volumes}
use Rattle.std.proofs.Common.{flat_map, ◌≤◌, arith, length-append}
use Rattle.std.proofs.lemmas.Grind.{flat_map-append}

-- the items of all volumes
abbrev all_of : Tapes → List TapeItem
all_of t = flat_map (λ v. v) (all_volumes t)

not_fewer : (s : Step) (t : Tapes) → length (all_of t) ≤ length (all_of (behind_step s t))
not_fewer (Item x) (UnderWay vs items) = simp (flat_map-append, length-append) (omega arith)
not_fewer (Item x) (Ended vs) = omega arith
not_fewer Change t = simp (flat_map-append, length-append) (omega arith)
not_fewer Close t = omega arith

never_fewer : (steps : List Step) (t : Tapes)
    → length (all_of t) ≤ length (all_of (behind_steps steps t))
never_fewer [] t = omega arith
never_fewer (s ∷ steps) t =
    omega (arith, not_fewer s t, never_fewer steps (behind_step s t))

not_back : (u : TapeItem) → HoldsFront (λ t. t ≡ UnderWay [] (u ∷ [])) (UnderWay [] []) → ⊥
not_back u f =
    let more = rw (f.leads, f.held) at (never_fewer f.steps f.now) in
    absurd (omega (arith, more))

none_split : (before after : List (Head1 × Option (List ℕ))) (input : Head1 × Option (List ℕ))
    → [] ≡ before ++ input ∷ after → ⊥
none_split [] after input e = cc
none_split (b ∷ before) after input e = cc

of_none : (tapes : Tapes) (w : SetState ℕ) (id : List ℕ) (shape : Shape) (cut : Cut)
    (fault : SetFault) → IsLeftOfAll (λ t. t ≡ tapes) w ⊥ fault id [] shape cut []
    → (fault ≡ Write OutOfMemory → ⊥) × (fault ≢ ReadFailed) × (IsLeftBehind (λ t. t ≡ tapes) w []
    ⊎ IsLeftWhole (λ t. t ≡ tapes) w [])
of_none tapes w id shape cut fault (inl g) = absurd (none_split g.before g.after g.input g.split)
of_none tapes w id shape cut fault (inr h) = (h.0, λ e. h.1 (subst IsOfInput (sym e) tt), h.2)

-- one record was passed, and then memory ran out
longer : (tapes : Tapes) (w : SetState ℕ) (told : List Told) (r : List ℕ) (records : List (List ℕ))
    (g : IsLeftOf (λ t. t ≡ tapes) w ⊥ (Write OutOfMemory) told (r ∷ records))
    → g.front ≡ r ∷ [] → IsFirstLong (length r) records
longer tapes w told r records g one =
    let split : r ∷ records ≡ (r ∷ []) ++ g.back =
    subst (λ f. r ∷ records ≡ f ++ g.back) one g.split in
    let back : g.back ≡ records = cc in
    elim (g.memory refl) [
      | inl none ↦ absurd none
      | inr all ↦ subst (IsFirstLong (length r)) back
          (subst (AllByRecursion (λ x. IsFirstLong (length x) g.back)) one all).0
    ]

pub cases_of_fronts : CasesOfFronts
cases_of_fronts = record {
  in_order = λ u v w. refl;
  at_the_end = λ u. refl;
  no_volume = λ u. refl;
  leads_there = λ now whole f. subst (λ t. behind_steps f.steps t ≡ whole) f.held f.leads;
  not_back = not_back;
  mid_record = λ tapes volumes capacity id file course fs records m. (m.split, m.packing);
  partly = λ tapes volumes capacity id file course fs records p. p;
  in_last = λ tapes volumes capacity id told l. (l.is_told, l.filed, l.partly);
  left = λ tapes w told. (λ l. l, λ l. l, λ l. l);
  left_of = λ tapes w told records g. (g.split, g.left);
  no_memory = λ tapes w told r s g one. longer tapes w told r (s ∷ []) g one;
  not_at_the_end = λ tapes w told r g one. longer tapes w told r [] g one;
  all_held = λ tapes w told records g. g.all tt;
  wrong_length = λ tapes w told records g. g.all tt;
  left_in = λ tapes w id shape cut x fault g. in_first id shape cut x _ g;
  unbegun = λ tapes w told fault u.
      (λ e. u.0 (subst IsOfInput (sym e) tt), λ e. u.0 (subst IsOfInput (sym e) tt), u.1);
  left_of_none = of_none;
  left_set = λ fault plan cut given g. (g.on_tapes, g.on_volumes, g.capacity, g.set_id, g.holds);
}
