-- Images that are copies of one volume, and the merged one.
use Rattle.std.specs.Prelude.{◌≡◌, ℕ, List, [], ◌∷◌, IsSome, ⊤}
use Rattle.std.specs.List.{AllByRecursion}
use Rattle.tape_image.specs.Tape.{TapeItem}
use Rattle.tape_run.specs.{Merging.IsMerged, Mount.IsCopy}
use Rattle.tape_set.specs.declared.position.Position.{Position}
use Rattle.tape_set.specs.{Position.IsUpTo, Layout.FileSet, Layout.nth, Reading.Reading, Reach.far}
use Rattle.tape_set.specs.{Reach.far_over, Reach.IsWithin, Lawful.IsLawful}

-- these are the items of copies of volume k, with these readings
abbrev pub AreCopies : FileSet → ℕ → List (List TapeItem) → List Reading → Type 0
AreCopies set k [] [] = ⊤
AreCopies set k (xs ∷ images) (r ∷ rs) =
    IsCopy set xs r × (r.volume ≡ k) × AreCopies set k images rs
AreCopies set k _ _ = ⊥

-- each item that was read well in one of these readings was read well in s
abbrev pub AreWithin : List Reading → Reading → Type 0
AreWithin [] s = ⊤
AreWithin (r ∷ rs) s = IsWithin r.good s.good × AreWithin rs s

-- The merged items of copies of a volume are a copy of it, with a reading in which an item was read
-- well if it was in one of the copies.
abbrev pub MergedIsCopy : Type 0
MergedIsCopy = (set : FileSet) (k : ℕ) (images : List (List TapeItem)) (rs : List Reading)
    (merged : List TapeItem) → IsSome (nth set.volumes k) → AreCopies set k images rs
    → IsMerged images merged → (r : Reading) × (r.volume ≡ k) × IsCopy set merged r × AreWithin rs r

-- A better reading takes each position of each file at least as far.
abbrev pub BetterIsAsFar : Type 0
BetterIsAsFar = (set : FileSet) (file : ℕ) (p : Position) (r s : Reading) → r.volume ≡ s.volume
    → IsWithin r.good s.good → IsUpTo (far set file p r) (far set file p s)

-- s is a reading of the same volume as r, and a better one
abbrev pub IsBetter : Reading → Reading → Type 0
IsBetter s r = (r.volume ≡ s.volume) × IsWithin r.good s.good

-- In a valid set, it takes a position at least as far as all the others together, one after
-- another, in any order and any number of times.
abbrev pub OnceIsEnough : Type 0
OnceIsEnough = (set : FileSet) (file : ℕ) (p : Position) (rs : List Reading) (s : Reading)
    → IsLawful set → AllByRecursion (λ r. IsBetter s r) rs
    → IsUpTo (far_over set file p rs) (far set file p s)
