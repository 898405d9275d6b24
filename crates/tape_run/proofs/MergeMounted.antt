-- What holds of the readings of images holds of the images of a source, all of which were mounted.
use Rattle.std.proofs.Common.{◌≡◌, ◌⊎◌, ℕ, suc, List, [], ◌∷◌, length, map, Option, Result, Ok, Err}
use Rattle.std.proofs.Common.{IfErr, refl, ap, subst, ◌∙◌, inl, inr}
use Rattle.tape_run.specs.{declared.merge.now.MergeEnd.MergeEnd, Reeling.Mounting}
use Rattle.tape_run.specs.declared.merge.now.MergeStop.{MergeStop}
use Rattle.tape_run.specs.declared.merge.reading.Reading.{Reading}
use Rattle.tape_run.specs.MergeCalls.{AreAtFront, IfImages}
use Rattle.tape_run.specs.MergeNow.{MountsAll, IfMounted, LeavesPlace, ReportsNoImage, ReportsImage}
use Rattle.tape_run.specs.declared.merge.now.MergeStop.TheVariants as stops

if_mounted : {L R : Type 0} (size : L → ℕ) (gives : Mounting L R) (remaining : R → Option (List ℕ))
    (shelf left : L) (devices : List R) (firsts : List (Reading R)) (holds : List (List ℕ) → Type 0)
    → MountsAll size gives shelf left devices → AreAtFront (map remaining devices) firsts
    → IfImages firsts holds → IfMounted size gives remaining shelf left holds
if_mounted size gives remaining shelf left devices firsts holds mounts front h = record {
  devices = devices;
  mounts = mounts;
  comes = λ images is. h images
      (subst (λ (l : List (Option (List ℕ))). AreAtFront l firsts) is front);
}

leaves_more : {O : Type 0} (stands : O → Option (List ℕ)) (old new : O) (said says P Q : Type 0)
    (stop : MergeStop) → (said → says) → (P → Q) → LeavesPlace stands old new said P stop
    → LeavesPlace stands old new says Q stop
leaves_more stands old new said says P Q (stops.NotOpened number) e f h = (h.0, e h.1)
leaves_more stands old new said says P Q (stops.TooLong size) e f h = (h.0, e h.1)
leaves_more stands old new said says P Q stops.OutOfMemory e f h = (h.0, e h.1)
leaves_more stands old new said says P Q stops.LogFailed e f h = (h.0, e h.1)
leaves_more stands old new said says P Q stops.WriteFailed e f (inl same) = inl (same.0, e same.1)
leaves_more stands old new said says P Q stops.WriteFailed e f (inr made) = inr (f made)

-- as many readings as images
as_many : {R D : Type 0} (remaining : D → Option (List ℕ)) (devices : List D)
    (firsts : List (Reading R)) → AreAtFront (map remaining devices) firsts
    → length firsts ≡ length devices
as_many remaining [] [] h = refl
as_many remaining (d ∷ ds) (f ∷ fs) h = ap (λ (k : ℕ). suc k) (as_many remaining ds fs h.5)
as_many remaining [] (f ∷ fs) h = absurd h
as_many remaining (d ∷ ds) [] h = absurd h

pub left_now : {L R O : Type 0} (result : Result MergeEnd MergeStop) (place : O → Option (List ℕ))
    (old new : O) (same : Type 0) (size : L → ℕ) (gives : Mounting L R)
    (remaining : R → Option (List ℕ)) (shelf left : L) (devices : List R)
    (firsts : List (Reading R)) (names : List (List ℕ)) (was is : Option (List ℕ))
    (holds : MergeEnd → List (List ℕ) → Type 0)
    → MountsAll size gives shelf left devices → AreAtFront (map remaining devices) firsts
    → IfErr result (LeavesPlace place old new
    (same ⊎ ReportsNoImage R (IfImages firsts) names (length firsts) was is)
    (ReportsImage R names (length firsts) was is
    × ((end : MergeEnd) × IfImages firsts (holds end))))
    → IfErr result (LeavesPlace place old new
    (same ⊎ ReportsNoImage R (IfMounted size gives remaining shelf left) names (size shelf)
    was is) (ReportsImage R names (size shelf) was is
    × ((end : MergeEnd) × IfMounted size gives remaining shelf left (holds end))))
left_now (Ok end) place old new same size gives remaining shelf left devices firsts names was is
    holds mounts front h = tt
left_now {R = R} (Err stop) place old new same size gives remaining shelf left devices firsts names
    was is holds mounts front h = leaves_more place old new _ _ _ _ stop said (λ made. (
      (made.0.0, made.0.1 ∙ many, made.0.2, made.0.3, made.0.4),
      (
        made.1.0,
        if_mounted size gives remaining shelf left devices firsts (holds made.1.0) mounts front
            made.1.1,
      ),
    )) h
  where
    many : length firsts ≡ size shelf
    many = as_many remaining devices firsts front ∙ mounts.all

    said : same ⊎ ReportsNoImage R (IfImages firsts) names (length firsts) was is
        → same ⊎ ReportsNoImage R (IfMounted size gives remaining shelf left) names (size shelf)
        was is
    said (inl same) = inl same
    said (inr (nows, all, inl (part, of))) = inr (
      nows,
      all ∙ many,
      inl (part, if_mounted size gives remaining shelf left devices firsts _ mounts front of),
    )
    said (inr (nows, all, inr (n, part, of))) = inr (
      nows,
      all ∙ many,
      inr (n, part, if_mounted size gives remaining shelf left devices firsts _ mounts front of),
    )
