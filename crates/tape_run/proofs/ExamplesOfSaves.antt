-- The examples for saves, and for the states that a crash leaves of a session.
use Rattle.std.proofs.Common.{◌≡◌, ◌⊎◌, inl, inr, ℕ, ◌≤◌, List, [], ◌∷◌, Some, refl, sym, ap, subst}
use Rattle.std.proofs.Common.{◌∙◌, length, arith, slice_get, Option, None}
use Rattle.std.specs.Prelude.{⊤}
use Rattle.tape_core.specs.{Place.rest_of, Stands.weight_of, Weight.IsFront, Table.saved}
use Rattle.tape_core.specs.{Point.Point, State.State}
use Rattle.tape_run.specs.{Stopping.RefusesSave, declared.fault.EngineFault.TheVariants.Run}
use Rattle.tape_run.specs.{declared.fault.RunFault.TheVariants.OutOfMemory, Reeling.StoodSaved}
use Rattle.tape_run.specs.Crash.{IsNoteOf, IsLast, BringsLast, KeepsLast, LeavesSaved}
use Rattle.tape_run.specs.{Seen.Seen, Seen.seen, SessionState.SessionState}
use Rattle.tape_run.specs.CasesOfSaves.{CasesOfSaved, brings, comes_now, comes_since, weighing}
use Rattle.tape_blocks.specs.Block.{Portion}

only_first : (s : Seen) (c d back : Point) (there : List Portion) → s.notes ≡ c ∷ d ∷ []
    → IsNoteOf 0 s back there → (back ≡ c) × IsFront there s.parts × (weight_of there ≡ back.staged)
only_first s c d back there two (is, front, weighs) =
    (let e = is in let f = ap (λ l. slice_get l 0) two in cc, front, weighs)

last_of_two : (s : Seen) (c d p : Point) (ps : List Portion) → s.notes ≡ c ∷ d ∷ []
    → BringsLast (brings ps p) s → (p ≡ d) × IsFront ps s.parts × (weight_of ps ≡ p.staged)
last_of_two s c d p ps two last =
    let (n, count, (is, front, weighs)) = last p ps (refl, refl) in
    let second : n ≡ 1 = omega (arith, count, ap length two) in
    let here : slice_get s.notes 1 ≡ Some p = subst (λ z. slice_get s.notes z ≡ Some p) second is in
    (let f = ap (λ l. slice_get l 1) two in cc, front, weighs)

none_is_brought : (s : Seen) (p : Point) (ps : List Portion) → s.notes ≡ []
    → BringsLast (brings ps p) s → ⊥
none_is_brought s p ps none last =
    let (n, count, i) = last p ps (refl, refl) in absurd (omega (arith, count, ap length none))

-- the last of one checkpoint is that one
pub of_one_note : (s : Seen) (c p : Point) (ps : List Portion) → s.notes ≡ c ∷ [] → IsLast s p ps
    → (p ≡ c) × IsFront ps s.parts
of_one_note s c p ps one (n, count, (is, front, weighs)) =
    let first : n ≡ 0 = omega (arith, count, ap length one) in
    let here : slice_get s.notes 0 ≡ Some p = subst (λ z. slice_get s.notes z ≡ Some p) first is in
    (let f = ap (λ l. slice_get l 0) one in cc, front)

pub one_note : (s : Seen) (c p : Point) (ps : List Portion) → s.notes ≡ c ∷ []
    → BringsLast (brings ps p) s → (p ≡ c) × IsFront ps s.parts
one_note s c p ps one last = of_one_note s c p ps one (last p ps (refl, refl))

-- before, a crash could leave only the one checkpoint
alone_before : (old : SessionState Point) (held ps : List Portion) (c : Point)
    → old.notes ≡ c ∷ [] → old.sink ≡ c → IsFront ps held → weight_of ps ≡ c.staged
    → BringsLast (brings ps old.sink) (seen (weighing (comes_now ps)) old held)
alone_before old held ps c had came front weighs back there (b, t) = grind (arith)

came_alone : (old new : SessionState Point) (held now ps : List Portion) (c : Point)
    → old.notes ≡ c ∷ [] → new.notes ≡ c ∷ [] → old.sink ≡ c → IsFront ps held
    → weight_of ps ≡ c.staged → KeepsLast (weighing (comes_now ps)) old held new now → new.sink ≡ c
came_alone old new held now ps c had has came front weighs keeps =
    (one_note (seen (weighing (comes_now ps)) new now) c new.sink ps has
    (keeps.last (λ same. alone_before old held ps c had came front weighs))).0

alone_since : (old new : SessionState Point) (held now ps : List Portion) (c : Point) (t : ℕ)
    → old.notes ≡ c ∷ [] → new.notes ≡ c ∷ [] → old.sink ≡ c → IsFront ps held
    → weight_of ps ≡ c.staged → t ≤ old.sink.file
    → KeepsLast (weighing (comes_since ps)) old held new now → new.sink ≡ c
alone_since old new held now ps c t had has came front weighs le keeps =
    (one_note (seen (weighing (comes_now ps)) new now) c new.sink ps has
    (keeps.since t le (ap length has ∙ sym (ap length had))
    (alone_before old held ps c had came front weighs))).0

on_the_way : (old new : SessionState Point) (held now ps : List Portion) (c : Point)
    → old.notes ≡ [] → new.notes ≡ c ∷ [] → KeepsLast (weighing (comes_now ps)) old held new now
    → (new.sink ≡ c) × IsFront ps now
on_the_way old new held now ps c none has keeps =
    one_note (seen (weighing (comes_now ps)) new now) c new.sink ps has (keeps.last (λ same.
    absurd (let e : 1 ≡ 0 = sym (ap length has) ∙ same ∙ ap length none in omega (arith, e))))

stood_so : (old new : SessionState Point) (held ps : List Portion) (now : Seen) (c : Point)
    → old.notes ≡ [] → now.notes ≡ c ∷ [] → StoodSaved (weighing (comes_now ps)) old held new
    now
    → (new.sink ≡ c) × (now.place ≡ rest_of new.core)
    × IsFront ps now.parts × (c.staged ≡ weight_of now.parts)
stood_so old new held ps now c none has (parts, holds, is, keeps) =
    let (same, front) = on_the_way old new held parts ps c none
    (sym (ap (λ (z : Seen). z.notes) is) ∙ has) keeps in
    let all : now.parts ≡ parts = ap (λ (z : Seen). z.parts) is in (
      same,
      ap (λ (z : Seen). z.place) is,
      subst (IsFront ps) (sym all) front,
      ap (λ (z : Point). z.staged) (sym same) ∙ holds ∙ ap weight_of (sym all),
    )

left_at_a_fault : (old new : SessionState Point) (held ps : List Portion) (now : Seen) (c : Point)
    → old.notes ≡ [] → now.notes ≡ c ∷ [] → LeavesSaved (weighing (comes_now ps)) ⊤ old held
    now new
    → ((new.sink ≡ c) × IsFront ps now.parts)
    ⊎ ((new.sink.staged ≡ weight_of ps) × IsFront now.parts ps
    × (new.sink ≡ saved (rest_of new.core) (weight_of ps)))
left_at_a_fault old new held ps now c none has leaves = grind (arith, of_one_note)

alone_at_a_fault : (old new : SessionState Point) (held ps : List Portion) (now : Seen) (c : Point)
    → old.notes ≡ c ∷ [] → now.notes ≡ c ∷ [] → old.sink ≡ c → IsFront ps held
    → weight_of ps ≡ c.staged
    → LeavesSaved (weighing (comes_now ps)) ⊥ old held now new → new.sink ≡ c
alone_at_a_fault old new held ps now c had has came front weighs leaves =
    elim (leaves.comes (λ same. alone_before old held ps c had came front weighs) new.sink ps
    (refl, refl)) [
      | inl last ↦ (of_one_note now c new.sink ps has last).0
      | inr here ↦ absurd here.0
    ]

alone_up_to_a_fault : (old new : SessionState Point) (held ps : List Portion) (now : Seen)
    (c : Point)
    (t : ℕ) → old.notes ≡ c ∷ [] → now.notes ≡ c ∷ [] → old.sink ≡ c → IsFront ps held
    → weight_of ps ≡ c.staged → t ≤ old.sink.file
    → LeavesSaved (weighing (comes_since ps)) ⊥ old held now new → new.sink ≡ c
alone_up_to_a_fault old new held ps now c t had has came front weighs le leaves =
    elim (leaves.since t le (ap length has ∙ sym (ap length had))
    (alone_before old held ps c had came front weighs) new.sink ps (refl, refl)) [
      | inl last ↦ (of_one_note now c new.sink ps has last).0
      | inr here ↦ absurd here.0
    ]

none_added : (old new : SessionState Point) (held now ps : List Portion) → old.notes ≡ []
    → new.notes ≡ [] → KeepsLast (weighing (comes_now ps)) old held new now → new.sink ≡ old.sink
none_added old new held now ps none still keeps =
    elim (keeps.adds (ap length still ∙ sym (ap length none)) new.sink ps (refl, refl)) [
      | inl was ↦ was.0
      | inr (n, count, i) ↦ absurd (omega (arith, count, ap length still))
    ]

same_last : (old new : SessionState Point) (held now ps : List Portion) (c d : Point)
    → old.notes ≡ c ∷ [] → new.notes ≡ d ∷ [] → IsFront ps held → weight_of ps ≡ c.staged
    → KeepsLast (weighing (comes_now [])) old held new now → c ≡ d
same_last old new held now ps c d had has front weighs keeps =
    (of_one_note (seen (weighing (comes_now [])) new now) d c ps has
    (keeps.same (ap length has ∙ sym (ap length had)) c ps
    (0, ap length had, (ap (λ l. slice_get l 0) had, front, weighs)))).0

none_added_at_a_fault : (old new : SessionState Point) (held ps : List Portion) (now : Seen)
    → old.notes ≡ [] → now.notes ≡ [] → LeavesSaved (weighing (comes_now ps)) ⊥ old held now new
    → new.sink ≡ old.sink
none_added_at_a_fault old new held ps now none still leaves =
    elim (leaves.adds (ap length still ∙ sym (ap length none)) new.sink ps (refl, refl)) [
      | inl was ↦ was.0
      | inr (inl (n, count, i)) ↦ absurd (omega (arith, count, ap length still))
      | inr (inr here) ↦ absurd here.0
    ]

none_saved : (image : Option (Option (List ℕ))) (old : Seen) (place : State)
    → RefusesSave (λ (r : Option (List ℕ)). r) old image (Run OutOfMemory) place → ⊥
none_saved None old place r = r
none_saved (Some image) old place r = r

pub cases_of_saved : CasesOfSaved
cases_of_saved = record {
  first_note = only_first;
  brings_last = last_of_two;
  brings_none = none_is_brought;
  brings_nothing = λ s back there none. absurd none;
  noted_on_the_way = on_the_way;
  none_on_the_way = came_alone;
  survives = λ old new held now keeps. keeps.survives;
  none_since = alone_since;
  survived = λ old new held now t le keeps. keeps.survived t le;
  goes_on = λ old new held now keeps. (keeps.no_fewer, keeps.later);
  none_added = none_added;
  same_last = same_last;
  stood = stood_so;
  left_at_a_fault = left_at_a_fault;
  unsaved = λ bytes cause old place r. r;
  no_save = λ image old place r. none_saved image old place r;
  alone_at_a_fault = alone_at_a_fault;
  none_added_at_a_fault = none_added_at_a_fault;
  survives_a_fault = λ old new held now leaves. leaves.survives;
  alone_up_to_a_fault = alone_up_to_a_fault;
  survived_a_fault = λ old new held now t le leaves. leaves.survived t le;
  no_fewer_at_a_fault = λ old new held now leaves. leaves.no_fewer;
  read_since = refl;
  went_back_since = refl;
  never_saved = refl;
  saved_before = refl;
  saved_again = refl;
}
