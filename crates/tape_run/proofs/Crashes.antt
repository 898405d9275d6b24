-- The states that a crash leaves of a session.
use Rattle.std.proofs.Common.{◌≡◌, ℕ, List, [], ◌∷◌, ◌++◌, Option, Some, None, sym, subst}
use Rattle.std.proofs.Common.{slice_get, inl}
use Rattle.tape_blocks.specs.Block.{Portion}
use Rattle.tape_core.specs.{Point.Point, Stands.weight_of, Weight.IsFront}
use Rattle.tape_core.specs.Crash.{AddsNothing, AddsOnly, Crashes, IsThis, Returns}
use Rattle.tape_core.proofs.Crashes.{only_among, only_then}
use Rattle.tape_run.specs.declared.script.Step.{Step}
use Rattle.tape_run.specs.declared.script.Step.TheVariants.{Reel, Save, Restart}
use Rattle.tape_run.specs.{Seen.Seen, Seen.IsKept, Crash.IsOf, Crash.IsNoteOf, Crash.StoodAt}
use Rattle.tape_run.proofs.Sessions.{kept_at}

pub adds_then : (a b c : Crashes) → AddsNothing a b → AddsNothing b c → AddsNothing a c
adds_then a b c = only_then (λ back there. ⊥) (λ back there. ⊥) a b c (λ back there h. h)

pub only_nothing : (these : Returns) (a b : Crashes) → AddsNothing a b → AddsOnly these a b
only_nothing these a b = only_among (λ back there. ⊥) these a b (λ back there h. absurd h)

-- the state belongs to the session that makes the steps
pub stood_here : (s : Seen) (steps : List Step) (reels left : List (Option (List ℕ)))
    (back : Point) (there : List Portion)
    → IsOf s back there → StoodAt s steps reels left back there
stood_here s [] reels left back there h = h
stood_here s (Reel ∷ steps) [] left back there h = h
stood_here s (Reel ∷ steps) (None ∷ reels) left back there h = tt
stood_here s (Reel ∷ steps) (Some bytes ∷ reels) [] back there h = h
stood_here s (Reel ∷ steps) (Some bytes ∷ reels) (l ∷ left) back there h = inl h
stood_here s (Save ∷ steps) reels left back there h = inl h
stood_here s (Restart n ∷ steps) reels left back there h = inl h

-- a crash may leave the sink with a checkpoint
pub noted_only : (s : Seen) (c : Point) (n : ℕ) (ps : List Portion) (a b : Crashes)
    → slice_get s.notes n ≡ Some c → IsFront ps s.parts → weight_of ps ≡ c.staged
    → AddsOnly (IsThis c ps) a b → AddsOnly (IsNoteOf n s) a b
noted_only s c n ps a b e f w = only_among (IsThis c ps) (IsNoteOf n s) a b
    (λ back there (p, q). (rw p e, rw q f, rw (p, q) w))

-- a crash may leave the sink with the checkpoint that it was cut to
pub cut_only : (s : Seen) (n : ℕ) (c : Point) (a b : Crashes)
    → slice_get s.notes n ≡ Some c → IsKept s
    → (holds : List Portion → Type 0) → holds s.parts
    → ((front rest : List Portion) → holds (front ++ rest) → weight_of front ≡ c.staged
    → AddsOnly (IsThis c front) a b)
    → AddsOnly (IsNoteOf n s) a b
cut_only s n c a b noted kept holds was crash =
    let at = kept_at s.place [] s.notes n c s.parts noted kept in
    let front = subst holds at.is_front.1 was in
    noted_only s c n at.ps a b noted at.is_front (sym at.note.staged)
    (crash at.ps at.is_front.0 front (sym at.note.staged))
