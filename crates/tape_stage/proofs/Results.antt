-- Clauses about the result of a call.
use Rattle.std.proofs.Common.{ℕ, List, Result, Ok, Err, OnOk}
use Rattle.tape_stage.specs.declared.stage.StageFault.TheVariants.{NoPoint, BadFrame, Device}
use Rattle.tape_stage.specs.declared.stage.StageFault.TheVariants.{OutOfMemory, Failed, Full}
use Rattle.tape_stage.specs.{declared.stage.StageFault.StageFault, Faults.SaysNone}
use Rattle.tape_stage.specs.{Faults.OnBadFrame, Found.IsFaultOf, Salvaged.RemainsNone}

pub on_ok : {A B : Type 0} (r : Result A B) {P Q : Type 0} → (P → Q) → OnOk r P → OnOk r Q
on_ok (Ok x) also p = also p
on_ok (Err e) also p = tt

pub ok_any : {A B : Type 0} (r : Result A B) {P : Type 0} → P → OnOk r P
ok_any (Ok x) p = p
ok_any (Err e) p = tt

pub no_frame_says : (bytes : List ℕ) (fault : StageFault) → (SaysNone fault → RemainsNone bytes)
    → OnBadFrame fault (λ place. ⊥) → IsFaultOf bytes fault
no_frame_says bytes NoPoint none bad = none tt
no_frame_says bytes (BadFrame place) none bad = absurd bad
no_frame_says bytes Device none bad = tt
no_frame_says bytes OutOfMemory none bad = tt
no_frame_says bytes Failed none bad = tt
no_frame_says bytes Full none bad = tt

-- a fault without a bad frame
pub no_frame_any : (fault : StageFault) (P : ℕ → Type 0) → OnBadFrame fault (λ place. ⊥)
    → OnBadFrame fault P
no_frame_any NoPoint P none = tt
no_frame_any (BadFrame place) P none = absurd none
no_frame_any Device P none = tt
no_frame_any OutOfMemory P none = tt
no_frame_any Failed P none = tt
no_frame_any Full P none = tt
