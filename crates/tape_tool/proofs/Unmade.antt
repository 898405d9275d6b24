-- Disks with the beginning of a new stage.
use Rattle.std.proofs.Common.{◌≡◌, ◌⊎◌, inl, inr, ⊎_elim, ℕ, ◌<◌, ◌≤◌, true, false, List, [], ◌+◌}
use Rattle.std.proofs.Common.{◌-◌, length, get_or, refl, sym, ap, ◌∙◌, subst, arith, slice_range}
use Rattle.std.proofs.lemmas.Bool.{cases_lt}
use Rattle.std.proofs.lemmas.List.{get_or_at, get_or_past, nil_from_length, take_all}
use Rattle.tape_stage.specs.{Body.body_text, Body.FitBody, OnlyReading.OnlyReads, Stages.OpensOver}
use Rattle.tape_stage.specs.Staged.{HoldsNone, KeepsStaged, StandsLike, blank, body_at, gate_at}
use Rattle.tape_stage.specs.Staged.{new_slots}
use Rattle.tape_stage.specs.declared.{disk.Disk.Ghosts, stage.StageFault.TheVariants.Device}
use Rattle.tape_stage.proofs.{Bodies.length-body, Finds.none_remains, Refusals.untouched_then}
use Rattle.tape_stage.proofs.{Passing.follow, Passing.weaken, Tears.closed_none}
use Rattle.tape_stage.proofs.Passing.{reads_then, stands}
use Rattle.tape_stage.specs.Disk.{IsLater, NoMore, SameFact}
use Rattle.tape_stage.proofs.Openings.{look_keeps, look_passes, look_untouched}
use Rattle.tape_tool.specs.Staging.{IsUnmade, RefusesSession, Says, first_point}
use Rattle.tape_tool.specs.declared.staging.StagingFault.{StagingFault}
use Rattle.tape_tool.specs.declared.staging.StagingFault.TheVariants.{Stage}

-- an empty disk is one
pub unmade_nil : (set_id : List ℕ) (file : ℕ) → IsUnmade set_id file []
unmade_nil set_id file = record {
  few = omega arith;
  each = λ i. inl (get_or_past [] i 0 (omega arith));
  none = λ g point broken parts r. omega (arith, r.framed.holds.long);
}

-- the byte is zero or the one that is due
abbrev IsDue : ℕ → ℕ → Type 0
IsDue byte due = (byte ≡ 0) ⊎ (byte ≡ due)

-- a gate is then not open
closed : (byte due : ℕ) → IsDue byte due → due ≡ 67 → byte ≡ 79 → ⊥
closed byte due (inl zero) is opened = omega arith
closed byte due (inr same) is opened = omega arith

-- bytes of which each is zero or due
module _ (set_id : List ℕ) (file : ℕ) (bytes : List ℕ)
    (all : (i : ℕ) → i < length bytes → IsDue (get_or bytes i 0)
    (get_or (new_slots (first_point set_id file)) i 0)) (few : length bytes ≤ 256) where
  each_due : (i : ℕ)
      → IsDue (get_or bytes i 0) (get_or (new_slots (first_point set_id file)) i 0)
  each_due i =
      ⊎_elim (λ inside. all i inside) (λ past. inl (get_or_past bytes i 0 past))
      (cases_lt i (length bytes))

  pub unmade_read : FitBody 1 (first_point set_id file) → IsUnmade set_id file bytes
  unmade_read fit =
      let second : get_or (new_slots (first_point set_id file)) 128 0 ≡ 67 =
      get_or_at (body_text 1 (first_point set_id file)) 67 blank 0 127
      (length-body 1 (first_point set_id file) fit) in
      record {
        few = few;
        each = each_due;
        none = none_remains bytes bytes refl
            (closed_none (gate_at false bytes) (body_at false bytes)
            (closed (gate_at false bytes) 67 (each_due 0) refl))
            (closed_none (gate_at true bytes) (body_at true bytes)
            (closed (gate_at true bytes) _ (each_due 128) second));
      }

-- all bytes were read
pub whole_read : (n : ℕ) (front now old : List ℕ) → front ≡ slice_range now 0 (0 + n) → now ≡ old
    → length old ≤ n → front ≡ old
whole_read n front now old is same le =
    is ∙ take_all (0 + n - 0) now (omega (arith, le, ap length same)) ∙ same

-- the length was asked for, and then the disk was only read
pub asked_then : {D : Type 0} (disk : Ghosts D) (a b c : D)
    → (disk.is_honest a → disk.seen b ≡ disk.seen a) → disk.length_of b ≡ disk.length_of a
    → (disk.is_honest a → NoMore (disk.may_leave a) (disk.may_leave b))
    → (disk.is_honest a → IsLater disk.moment disk.left_since disk.may_leave a b)
    → SameFact (disk.is_honest a) (disk.is_honest b) → OnlyReads disk b c → OnlyReads disk a c
asked_then disk a b c same long crash time honest second =
    reads_then disk a b c honest.onward (record {
      same = same;
      same_length = long;
      any_moment = λ h. stands disk a b _ (time h) (crash h);
      back = honest.back;
    }) second

-- a disk that is not one, and was only read
module _ {D : Type 0} (disk : Ghosts D) (a b : D) (reads : OnlyReads disk a b)
    (honest : disk.is_honest a) where
  pub not_empty : (set_id : List ℕ) (file : ℕ) → (IsUnmade set_id file (disk.seen a) → ⊥)
      → disk.length_of b ≡ length (disk.seen b) → disk.length_of b ≡ 0 → ⊥
  not_empty set_id file made long none =
      made (subst (IsUnmade set_id file)
      (sym (sym (reads.same honest) ∙ nil_from_length (disk.seen b) (sym long ∙ none)))
      (unmade_nil set_id file))

  pub read_opens : (d : D) → OpensOver disk b d → OpensOver disk a d
  read_opens d opens =
      follow disk a b d _ (look_passes disk a b reads honest (StandsLike (disk.seen a)))
      (weaken disk b d _ _ also opens)
    where
      also : (c : List ℕ) → disk.may_leave b c ⊎ StandsLike (disk.seen b) c
          → disk.may_leave a c ⊎ StandsLike (disk.seen a) c
      also c (inl left) = inl ((reads.any_moment honest).now c left)
      also c (inr like) =
          inr (subst (λ (bytes : List ℕ). StandsLike bytes c) (reads.same honest) like)

  -- what was left of it when no session was opened
  pub read_then : (set_id : List ℕ) (file : ℕ) (fault : StagingFault) (d : D)
      → RefusesSession set_id file disk b fault d → RefusesSession set_id file disk a fault d
  read_then set_id file fault d refuses = record {
    says = subst (λ (read : List ℕ). Says set_id file read fault) (reads.same honest) refuses.says;
    any_moment = read_opens d refuses.any_moment;
    foreign = λ none. untouched_then disk a b d (look_untouched disk a b reads honest)
        (refuses.foreign (subst HoldsNone (sym (reads.same honest)) none));
    kept = subst (λ (old : List ℕ). KeepsStaged old (disk.seen d)) (reads.same honest) refuses.kept;
  }

  -- or when it could not be read further
  pub read_failed : (set_id : List ℕ) (file : ℕ)
      → RefusesSession set_id file disk a (Stage Device) b
  read_failed set_id file = record {
    says = (λ none. absurd none, tt);
    any_moment = look_passes disk a b reads honest (StandsLike (disk.seen a));
    foreign = λ none. look_untouched disk a b reads honest;
    kept = look_keeps disk a b reads honest;
  }
