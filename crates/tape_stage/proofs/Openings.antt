-- Opening: the slots are found by reading, and then the bytes after the staged data are removed.
use Rattle.std.proofs.Common.{◌≡◌, ◌⊎◌, inl, inr, ℕ, ◌+◌, List, take, ap, ◌∙◌}
use Rattle.tape_blocks.specs.Block.{Portion}
use Rattle.tape_stage.specs.Staged.{Holding, HoldsNone, KeepsStaged, Ready, Staged, StandsLike}
use Rattle.tape_stage.specs.declared.stage.StageFault.TheVariants.{Device, Failed, Full}
use Rattle.tape_stage.specs.{declared.disk.Disk.Ghosts, declared.stage.Found.Found, Disk.CutShort}
use Rattle.tape_stage.specs.{Found.IsFound, Found.IsFaultOf, Moments.Passes, Moments.Untouched}
use Rattle.tape_stage.specs.{OnlyReading.OnlyReads, Faults.SaysNone, Stages.RefusesOpening}
use Rattle.tape_stage.specs.declared.stage.StageFault.{StageFault}
use Rattle.tape_core.specs.Weight.{Rose}
use Rattle.tape_stage.proofs.{Finds.stands_like, Finds.cut_ready, Finds.found_read, Passing.weaken}
use Rattle.tape_stage.proofs.{Passing.follow, Refusals.same_keeps, Refusals.cut_keeps}

-- the disk represents the slot found, with its parts, and the stage is ready
pub record IsOpened {D : Type 0} (disk : Ghosts D) (found : Found) (old new : D) : Type 0 where
  pub parts : List Portion
  pub read : Staged (disk.seen old) found.generation found.point parts
  pub ready : Ready found.in_second found.generation found.point parts found.other_open
      (disk.seen new) (disk.may_leave new)

-- the disk was only read
module _ {D : Type 0} (g : Ghosts D) (a b : D) (reads : OnlyReads g a b)
    (honest : g.is_honest a) where
  pub look_untouched : Untouched g a b
  look_untouched = record { read = reads.same honest; crash = reads.any_moment honest }

  pub look_keeps : KeepsStaged (g.seen a) (g.seen b)
  look_keeps = same_keeps _ _ (reads.same honest)

  pub look_passes : (P : List ℕ → Type 0) → Passes g a b (λ x. g.may_leave a x ⊎ P x)
  look_passes P = weaken g a b (g.may_leave a)
      (λ x. g.may_leave a x ⊎ P x) (λ x left. inl left) (reads.any_moment honest)

-- the disk was only read, and the stage was refused
pub read_refuses : {D : Type 0} (g : Ghosts D) (a b : D) → OnlyReads g a b → (fault : StageFault)
    → (g.is_honest a → SaysNone fault → HoldsNone (g.seen a))
    → (g.is_honest a → IsFaultOf (g.seen a) fault) → (fault ≡ Full → ⊥) → (fault ≡ Failed → ⊥)
    → (fault ≡ Device → Rose (g.faults a) (g.faults b)) → RefusesOpening g a fault b
read_refuses g a b reads fault none says not_full not_failed cause = record {
  none = none;
  says = says;
  not_full = not_full;
  not_failed = not_failed;
  cause = cause;
  any_moment = λ honest. look_passes g a b reads honest (StandsLike (g.seen a));
  kept = λ honest. look_keeps g a b reads honest;
  untouched = λ honest calm. look_untouched g a b reads honest;
  foreign = λ honest none. look_untouched g a b reads honest;
  same_length = λ calm. reads.same_length;
}

-- the bytes after the weight that was found were then removed
module _ {D : Type 0} (g : Ghosts D) (a b c : D) (reads : OnlyReads g a b)
    (honest : g.is_honest a) (found : Found) (is : IsFound found (g.seen a)) where
  pub cut_stopped : CutShort (256 + found.point.staged) (g.seen b) (g.seen c)
      → KeepsStaged (g.seen a) (g.seen c)
  cut_stopped cut = cut_keeps _ _ _ is (rw (reads.same honest) at cut)

  module _ (parts : List Portion) (holding : Holding found.point.staged parts (g.seen a)) where
    pub cut_passes : Passes g b c (λ x. take (256 + found.point.staged) x
        ≡ take (256 + found.point.staged) (g.seen b))
        → Passes g a c (λ x. g.may_leave a x ⊎ StandsLike (g.seen a) x)
    cut_passes cut =
        let P : List ℕ → Type 0 = λ x. g.may_leave a x ⊎ StandsLike (g.seen a) x in
        let end = 256 + found.point.staged in
        follow g a b c P
        (look_passes g a b reads honest (StandsLike (g.seen a)))
        (weaken g b c (λ x. take end x ≡ take end (g.seen b)) P
        (λ x alike. inr (stands_like found (g.seen a) x is holding.long
        (alike ∙ ap (take end) (reads.same honest)))) cut)

    pub cut_opened : g.seen c ≡ take (256 + found.point.staged) (g.seen b)
        → ((x : List ℕ) → g.may_leave c x → x ≡ g.seen c) → IsOpened g found a c
    cut_opened cut only = record {
      parts = parts;
      read = found_read found parts (g.seen a) is holding;
      ready = cut_ready found parts (g.seen a) (g.seen c) (g.may_leave c) is holding
          (cut ∙ ap (take (256 + found.point.staged)) (reads.same honest)) only;
    }
