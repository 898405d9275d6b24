-- A call of `salvage_to` for images in which blocks of others may replace unreadable ones.
use Rattle.std.proofs.Common.{◌≡◌, ◌⊎◌, ◌<◌, inl, inr, ℕ, Bool, List, length, Option, None}
use Rattle.std.proofs.Common.{Result, Ok, Err, IfOk, OnErr}
use Rattle.std.specs.Bool.{⊤}
use Rattle.std.specs.Io.KnownBytes.{Appends}
use Rattle.tape_run.specs.{Reeling.Mounting, Salvaging.Salvages, Salvaging.StopsSalvage}
use Rattle.tape_run.specs.declared.salvage.{SalvageTask.SalvageTask, joined.JoinedImage.JoinedImage}
use Rattle.tape_run.specs.declared.salvage.joined.JoinedImages.{JoinedImages}
use Rattle.tape_run.specs.SalvageJoined.{SalvagesJoined, FailsJoined}

pub joined_ok : {W L R E : Type 0} (contents : W → Option (List ℕ)) (size : L → ℕ)
    (gives : Mounting L R) (remaining : R → Option (List ℕ)) (task : SalvageTask) (out : W)
    (r : Result Bool E) (left : L) (shelf after : JoinedImages L)
    (stands old said says : Option (List ℕ)) (lines : List ℕ)
    → 0 < length lines → Appends old said lines
    → IfOk r (λ complete. Salvages {L = JoinedImages L} {R = JoinedImage R} contents
    (λ s. size s.images.now) (λ _ _ _ _. ⊤) (λ _. None) task out shelf after stands said says
    complete)
    → IfOk r (λ complete. SalvagesJoined contents size gives remaining task out left stands old says
    complete)
joined_ok contents size gives remaining task out (Ok complete) left shelf after stands old said says
    lines some wrote salvages = inr (lines, said, some, wrote, shelf, after, salvages)
joined_ok contents size gives remaining task out (Err fault) left shelf after stands old said says
    lines some wrote salvages = tt

pub joined_err : {W L R T : Type 0} (contents : W → Option (List ℕ)) (size : L → ℕ)
    (gives : Mounting L R) (remaining : R → Option (List ℕ)) (task : SalvageTask) (out : W)
    {E : Type 0} (r : Result T E) (left : L) (shelf after : JoinedImages L)
    (stood stands old said says : Option (List ℕ)) (lines : List ℕ)
    → 0 < length lines → Appends old said lines
    → OnErr r (((stands ≡ stood) × StopsSalvage {L = JoinedImages L} {R = JoinedImage R}
    (λ s. size s.images.now) (λ _ _ _ _. ⊤) (λ _. None) task shelf after said says)
    ⊎ ((complete : Bool) × (all : Option (List ℕ)) × Salvages {L = JoinedImages L}
    {R = JoinedImage R} contents (λ s. size s.images.now) (λ _ _ _ _. ⊤) (λ _. None) task out shelf
    after stands said all complete × ((rest : List ℕ) × Appends says all rest)))
    → OnErr r (FailsJoined contents size gives remaining task out left stood stands old says)
joined_err contents size gives remaining task out (Ok x) left shelf after stood stands old said says
    lines some wrote stops = tt
joined_err contents size gives remaining task out (Err fault) left shelf after stood stands old said
    says lines some wrote (inl (same, stops)) =
    inr (inl (same, inr (lines, said, some, wrote, shelf, after, stops)))
joined_err contents size gives remaining task out (Err fault) left shelf after stood stands old said
    says lines some wrote (inr (complete, all, salvages, rest)) =
    inr (inr (complete, all, inr (lines, said, some, wrote, shelf, after, salvages), rest))
