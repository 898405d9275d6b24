-- The result of `salvage` for images that may complete each other.
use Rattle.std.specs.Prelude.{◌≡◌, ◌⊎◌, ◌<◌, ⊤, ℕ, Bool, List, length, Option, None}
use Rattle.std.specs.Io.KnownBytes.{Appends}
use Rattle.tape_image.specs.Written.{AppendsFront}
use Rattle.tape_run.specs.{Reeling.Mounting, Salvaging.Salvages, Salvaging.StopsSalvage}
use Rattle.tape_run.specs.declared.salvage.{SalvageTask.SalvageTask, joined.JoinedImage.JoinedImage}
use Rattle.tape_run.specs.declared.salvage.joined.JoinedImages.{JoinedImages}

-- The file was recovered from the images as they are; or lines were reported first, and it was
-- recovered from as many images in which blocks of others may replace unreadable ones. Which blocks
-- these are is not said here.
abbrev pub SalvagesJoined : {W L R : Type 0} → (W → Option (List ℕ)) → (L → ℕ) → Mounting L R
    → (R → Option (List ℕ)) → SalvageTask → W → L → Option (List ℕ) → Option (List ℕ)
    → Option (List ℕ) → Bool → Type 0
SalvagesJoined {W} {L} {R} contents size gives remaining task out left stands old says complete =
    ((shelf : L) × Salvages contents size gives remaining task out shelf left stands old says
    complete)
    ⊎ ((lines : List ℕ) × (said : Option (List ℕ)) × (0 < length lines) × Appends old said lines
    × (shelf : JoinedImages L) × (after : JoinedImages L)
    × Salvages {L = JoinedImages L} {R = JoinedImage R} contents (λ s. size s.images.now)
    (λ _ _ _ _. ⊤) (λ _. None) task out shelf after stands said says complete)

-- The recovery stopped before the file got its name.
abbrev pub StopsJoined : {L R : Type 0} → (L → ℕ) → Mounting L R → (R → Option (List ℕ))
    → SalvageTask → L → Option (List ℕ) → Option (List ℕ) → Type 0
StopsJoined {L} {R} size gives remaining task left old says =
    ((shelf : L) × StopsSalvage size gives remaining task shelf left old says)
    ⊎ ((lines : List ℕ) × (said : Option (List ℕ)) × (0 < length lines) × Appends old said lines
    × (shelf : JoinedImages L) × (after : JoinedImages L)
    × StopsSalvage {L = JoinedImages L} {R = JoinedImage R} (λ s. size s.images.now)
    (λ _ _ _ _. ⊤) (λ _. None) task shelf after said says)

-- The call failed: the file with the name is unchanged, and the report got a prefix of the lines;
-- or only the rest of the report could not be written.
abbrev pub FailsJoined : {W L R : Type 0} → (W → Option (List ℕ)) → (L → ℕ) → Mounting L R
    → (R → Option (List ℕ)) → SalvageTask → W → L → Option (List ℕ) → Option (List ℕ)
    → Option (List ℕ) → Option (List ℕ) → Type 0
FailsJoined {W} {L} {R} contents size gives remaining task out left stood stands old says =
    ((stands ≡ stood) × ((lines : List ℕ) × AppendsFront old says lines))
    ⊎ (((stands ≡ stood) × StopsJoined size gives remaining task left old says)
    ⊎ ((complete : Bool) × (all : Option (List ℕ)) × SalvagesJoined contents size gives remaining
    task out left stands old all complete × ((rest : List ℕ) × Appends says all rest)))
