-- The images of a complete set.
use Rattle.std.specs.Prelude.{◌≡◌, ◌<◌, ℕ, ◌+◌, List, [], ◌∷◌, length}
use Rattle.tape_image.specs.Begins.{Stop, Begins}
use Rattle.tape_set.specs.Layout.{FileSet, items}
use Rattle.tape_run.specs.declared.script.{Step.Step, Step.TheVariants.Reel}

-- a reel for each image
abbrev pub reels_of : List (List ℕ) → List Step
reels_of [] = []
reels_of (b ∷ bs) = Reel ∷ reels_of bs

-- The images begin with exactly the items of the volumes after volume k, one image for each volume.
abbrev pub AreVolumes : FileSet → ℕ → List (List ℕ) → Type 0
AreVolumes set k [] = k ≡ length set.volumes
AreVolumes set k (b ∷ bs) =
    (k < length set.volumes) × ((end : ℕ) × (stop : Stop) × Begins 0 b (items set (k + 1)) end stop)
    × AreVolumes set (k + 1) bs
