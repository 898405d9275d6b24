-- The calls of a session for images are the steps of a run.
use Rattle.std.proofs.Common.{◌≡◌, Bool, ℕ, suc, ◌+◌, List, [], ◌∷◌, ◌++◌, length-append, length}
use Rattle.std.proofs.Common.{map, Option, Some, None, IfSome, refl, sym, ap, subst, ◌∙◌, arith}
use Rattle.std.proofs.Common.{true, false}
use Rattle.tape_core.specs.State.{State}
use Rattle.tape_run.specs.{Given.is_device, Seen.Seen, Runs.Runs, Steps.Reeled}
use Rattle.tape_run.specs.declared.script.{Step.Step, Step.TheVariants.Reel}
use Rattle.tape_run.proofs.Headline.{headline, took_so_many}
use Rattle.tape_run.specs.Reeling.{IsNoted, step_behind, notes_behind, Turn, Follows}
use Rattle.tape_run.specs.Reeling.{steps_of, AreTold, AreSteps, failed_in, left_in}

-- one reel, and the calls after it
pub step_made : (back spares doubtful noted failed : Bool) (which : List Bool)
    (old mid behind new : Seen)
    (b : List ℕ) (bs : List (List ℕ)) (l : Option (List ℕ)) (left : List (Option (List ℕ)))
    (steps : List Step) → Reeled b l failed old mid
    → IsNoted back spares doubtful noted mid behind
    → (length behind.notes ≡ notes_behind doubtful noted (length old.notes)
    → Runs which behind steps (map Some bs) left new)
    → Runs (failed ∷ which) old (Reel ∷ step_behind back doubtful noted (length old.notes) ++ steps)
    (map Some (b ∷ bs)) (l ∷ left) new
step_made back spares false false failed which old mid behind new b bs l left steps r (is, here, s)
    rest =
    let count : length behind.notes ≡ length old.notes =
    ap (λ (z : Seen). length z.notes) s ∙ ap length r.notes in
    (mid, r, subst (λ z. Runs which z steps (map Some bs) left new) s (rest count))
step_made back spares false true failed which old mid behind new b bs l left steps r (elsewhere, s)
    rest =
    let count : length behind.notes ≡ length old.notes + 1 =
    ap length s.notes ∙ length-append mid.notes _ ∙ ap (λ n. length n + 1) r.notes in
    (mid, r, (behind, s, rest count))
step_made false spares true noted failed which old mid behind new b bs l left steps r s rest =
    let count : length behind.notes ≡ length old.notes =
    ap (λ (z : Seen). length z.notes) s ∙ ap length r.notes in
    (mid, r, subst (λ z. Runs which z steps (map Some bs) left new) s (rest count))
step_made true spares true noted failed which old mid behind new b bs l left steps r (n, one, w)
    rest =
    let had : length old.notes ≡ suc n = omega (arith, one, ap length r.notes) in
    let count : length behind.notes ≡ length old.notes =
    ap length w.notes ∙ took_so_many n mid.notes (omega (arith, one)) ∙ omega (arith, had) in
    subst (λ m. Runs (failed ∷ which) old (Reel ∷ step_behind true true noted m ++ steps)
    (map Some (b ∷ bs)) (l ∷ left) new) (sym had) ((mid, r, (behind, w, rest count)))

made : (back spares : Bool) (core : State) (old : Seen) (turns : List Turn) (last : State)
    (new : Seen) (bytes : List (List ℕ)) → Follows back spares core old turns last new
    → AreTold turns bytes
    → Runs (failed_in turns) old (steps_of back (length old.notes) turns) (map Some bytes)
    (left_in turns) new
made back spares core old [] last new bytes (same_core, same) told = (refl, same)
made back spares core old (None ∷ turns) last new bytes (waits, f) told =
    made back spares core old turns last new bytes f told
made back spares core old (Some o ∷ turns) last new [] f told = absurd told
made back spares core old (Some o ∷ turns) last new (b ∷ bs) (next, behind, r, f) (had, told) =
    let doubtful = o.suspect in
    let (mid, reeled, noted) = subst (λ h. IfSome h (λ bytes. (mid : Seen) × Reeled bytes o.left
    (is_device o.answer.fault) old mid × IsNoted back spares doubtful o.noted mid behind)) had
    r.reeled in
    step_made _ _ _ _ _ (failed_in turns) _ _ _ new _ bs _ (left_in turns) _ reeled noted (λ count.
    subst (λ n. Runs (failed_in turns) behind (steps_of back n turns) (map Some bs) (left_in turns)
    new) count (made back spares next behind turns last new bs f told))

-- These calls are a run.
pub are_steps : (back spares : Bool) (core : State) (old : Seen) (turns : List Turn) (last : State)
    (new : Seen) → Follows back spares core old turns last new → AreSteps back turns old new
are_steps back spares core old turns last new f = λ bytes told. headline _ _ _ _ _ _
    (made _ _ _ _ _ _ _ _ f told)
