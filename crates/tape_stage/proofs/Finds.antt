-- The slots that are found on a disk.
use Rattle.std.proofs.Common.{◌≡◌, ⊎_elim, ℕ, ◌+◌, ◌≤◌, true, false, not, List, take, length}
use Rattle.std.proofs.Common.{Option, Some, None, ◌==◌, sym, ap, ◌∙◌, subst, arith}
use Rattle.std.proofs.lemmas.List.{take-take, length-take, length-take-le}
use Rattle.std.proofs.lemmas.Bool.Decides.{eqb_tells}
use Rattle.tape_blocks.specs.Block.{Portion}
use Rattle.tape_stage.specs.Body.{body_of, Slot}
use Rattle.tape_stage.specs.Staged.{gate_at, body_at, read_slot, slot_at, best, Staged, StagedIn}
use Rattle.tape_stage.specs.Staged.{Holding, Loses, Ready, StandsLike}
use Rattle.tape_stage.specs.{Found.IsFound, Salvaged.RemainsNone, declared.stage.Found.Found}
use Rattle.tape_stage.proofs.Tears.{slot_alike, gate_alike, closed_none, open_reads, alike_holding}
use Rattle.tape_stage.proofs.Tears.{best_of, staged_named}

pub front_same : (n : ℕ) (front bytes : List ℕ) → front ≡ take n bytes → take n front ≡ take n bytes
front_same n front bytes is = ap (take n) is ∙ take-take n n bytes (omega arith)

pub found_alike : (found : Found) (old new : List ℕ) → take 256 new ≡ take 256 old
    → IsFound found old → IsFound found new
found_alike found old new same is = record {
  slot = slot_alike found.in_second 256 old new (omega arith) same ∙ is.slot;
  other = subst (Loses found.in_second found.generation)
      (sym (slot_alike (not found.in_second) 256 old new (omega arith) same)) is.other;
  gate = is.gate ∙ ap (λ (n : ℕ). n == 79)
      (sym (gate_alike (not found.in_second) 256 old new (omega arith) same));
}

-- nothing remains if no slot is valid
pub none_remains : (front bytes : List ℕ) → take 256 front ≡ take 256 bytes
    → slot_at false front ≡ None → slot_at true front ≡ None → RemainsNone bytes
none_remains front bytes same no_first no_second g point broken parts remains =
    let first : slot_at false bytes ≡ None =
    sym (slot_alike false 256 bytes front (omega arith) same) ∙ no_first in
    let second : slot_at true bytes ≡ None =
    sym (slot_alike true 256 bytes front (omega arith) same) ∙ no_second in
    let none : best (slot_at false bytes) (slot_at true bytes) ≡ None =
    ap (λ (s : Option Slot). best s (slot_at true bytes)) first ∙ second in
    cc (none, remains.slot)

slot_gate : (gate : ℕ) (body : List ℕ) (found : Slot) → read_slot gate body ≡ Some found
    → (gate ≡ 79) × (body_of body ≡ Some found)
slot_gate gate body found is =
    ⊎_elim (λ yes. (yes.1, sym (open_reads _ body yes.1) ∙ is)) (λ no. let none =
    closed_none gate body no.1 in cc (none, is)) (eqb_tells gate 79)

-- the slot found, with intact frames after it, is staged
pub found_staged : (found : Found) (parts : List Portion) (bytes : List ℕ) → IsFound found bytes
    → Holding found.point.staged parts bytes → StagedIn found.in_second found.generation found.point
    parts bytes
found_staged found parts bytes is holding =
    let slot = slot_gate (gate_at found.in_second bytes) (body_at found.in_second bytes)
    (found.generation, found.point) is.slot in
    record { is_open = slot.0; body = slot.1; other = is.other; parts_are = holding }

-- the staged data are ready once a crash leaves only them
pub found_ready : (found : Found) (parts : List Portion) (bytes : List ℕ) (may_leave : List ℕ
    → Type 0) → IsFound found bytes → Holding found.point.staged parts bytes
    → ((c : List ℕ) → may_leave c → c ≡ bytes)
    → Ready found.in_second found.generation found.point parts found.other_open bytes may_leave
found_ready found parts bytes may_leave is holding only = record {
  staged = found_staged _ _ _ is holding;
  gate = is.gate;
  alike = λ c left. ap (take (256 + found.point.staged)) (only c left);
}

-- bytes that agree up to the staged end represent the same
pub stands_like : (found : Found) (read c : List ℕ) → IsFound found read
    → 256 + found.point.staged ≤ length read
    → take (256 + found.point.staged) c ≡ take (256 + found.point.staged) read → StandsLike read c
stands_like found read c is room same g point parts staged =
    let end = 256 + found.point.staged in
    let named = best_of found.in_second found.generation found.point read is.slot is.other in
    let both : Some (found.generation, found.point) ≡ Some (g, point) = sym named ∙ staged.slot in
    let e : (found.generation, found.point) ≡ (g, point) = cc in
    let weight : found.point.staged ≡ point.staged = ap (λ (p : Slot). p.1.staged) e in
    let long : end ≤ length c =
    omega (arith, ap length same, length-take end c, length-take end read) in
    record {
      slot = ap (λ (s : Option Slot). best s (slot_at true c)) (slot_alike false end read c
          (omega arith) same) ∙ ap (λ (s : Option Slot). best (slot_at false read) s)
          (slot_alike true end read c (omega arith) same) ∙ staged.slot;
      parts_are = alike_holding end _ _ _ c (omega (arith, weight)) same long staged.parts_are;
    }

-- the stage after the cut is ready
pub cut_ready : (found : Found) (parts : List Portion) (read new : List ℕ) (may_leave : List ℕ
    → Type 0) → IsFound found read → Holding found.point.staged parts read
    → new ≡ take (256 + found.point.staged) read → ((c : List ℕ) → may_leave c → c ≡ new)
    → Ready found.in_second found.generation found.point parts found.other_open new may_leave
cut_ready found parts read new may_leave is holding cut only =
    let end = 256 + found.point.staged in
    let same : take end new ≡ take end read =
    ap (take end) cut ∙ take-take end end read (omega arith) in
    let long : length new ≡ end = ap length cut ∙ length-take-le end read holding.long in
    let front : take 256 new ≡ take 256 read =
    ap (take 256) cut ∙ take-take 256 end read (omega arith) in
    found_ready _ _ _ may_leave (found_alike _ _ new front is)
    (alike_holding end _ _ _ new (omega arith) same (omega (arith, long)) holding) only

pub found_read : (found : Found) (parts : List Portion) (bytes : List ℕ) → IsFound found bytes
    → Holding found.point.staged parts bytes → Staged bytes found.generation found.point parts
found_read found parts bytes is holding = staged_named _ _ _ _ _ (found_staged _ _ _ is holding)
