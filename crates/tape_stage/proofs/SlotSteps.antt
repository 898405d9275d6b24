-- The three steps from one generation to the next.
use Rattle.std.proofs.Common.{◌≡◌, inl, inr, ⊎_elim, ℕ, ◌+◌, ◌≤◌, Bool, true, false, not, List, []}
use Rattle.std.proofs.Common.{◌∷◌, length, take, drop, Some, ◌==◌, sym, ap, ◌∙◌, subst, arith}
use Rattle.std.proofs.{lemmas.List.length-take, lemmas.Bool.Decides.eqb_tells}
use Rattle.tape_stage.specs.Staged.{slot_place, gate_at, body_at, read_slot, slot_at, Loses}
use Rattle.tape_stage.specs.Staged.{StagedIn, IsClosed, IsNext, Ready, NamedIn, IsSaving}
use Rattle.tape_stage.specs.{Staged.KeepsFrames, Disk.Torn, Disk.Holds, Disk.Only, Moments.After}
use Rattle.tape_stage.specs.Body.{body_of, body_text, FitBody}
use Rattle.tape_blocks.specs.Block.{Portion}
use Rattle.tape_core.specs.Point.{Point}
use Rattle.tape_stage.proofs.Tears.{KeptIn, torn_other, gate_alike, torn_gate_body, torn_body_gate}
use Rattle.tape_stage.proofs.Tears.{frames_holding, alike_staged, loses_gate, closed_none}
use Rattle.tape_stage.proofs.Tears.{none_loses, open_reads}
use Rattle.tape_stage.proofs.{Torn.holds_torn, Torn.holds_piece, Torn.holds_byte, Bodies.body_reads}

-- the other slot contains the next generation after a closed gate
pub record IsFilled (second : Bool) (g : ℕ) (point next : Point) (parts : List Portion)
    (bytes : List ℕ) : Type 0 where
  pub closed : IsClosed second g point parts bytes
  pub body : body_at (not second) bytes ≡ body_text (g + 1) next

-- a call that preserves a slot and the frames preserves the staged data, if the other slot remains
-- older
pub kept_staged : (second : Bool) (g : ℕ) (point : Point) (parts : List Portion) (old new : List ℕ)
    → KeptIn second old new → Loses second g (slot_at (not second) new)
    → StagedIn second g point parts old → StagedIn second g point parts new
kept_staged second g point parts old new kept loses staged = record {
  is_open = kept.gate ∙ staged.is_open;
  body = ap body_of kept.body ∙ staged.body;
  other = loses;
  parts_are = frames_holding _ _ _ _ kept.frames staged.parts_are;
}

pub gate_kept : (second : Bool) (old new : List ℕ) → Torn (slot_place (not second)) 1 old new
    → KeptIn second old new
gate_kept second old new torn = torn_other second _ _ _ _ (omega arith) (omega arith) torn

pub body_kept : (second : Bool) (n : ℕ) (old new : List ℕ) → n ≡ 127
    → Torn (slot_place (not second) + 1) n old new → KeptIn second old new
body_kept second n old new is torn =
    torn_other second _ _ _ _ (omega arith) (omega (arith, is)) torn

-- 1. the gate of the other slot, which was open, may contain any byte
pub closing : (second : Bool) (g : ℕ) (point : Point) (parts : List Portion) (old new : List ℕ)
    → gate_at (not second) old ≡ 79 → StagedIn second g point parts old
    → Torn (slot_place (not second)) 1 old new → StagedIn second g point parts new
closing second g point parts old new was_open staged torn =
    let body : body_at (not second) new ≡ body_at (not second) old =
    torn_gate_body (not second) _ _ torn in
    let before =
    subst (Loses second g) (open_reads _ (body_at (not second) old) was_open) staged.other in
    let loses = subst (λ (b : List ℕ). Loses second g (read_slot (gate_at (not second) new) b))
    (sym body) (loses_gate second g (gate_at (not second) new) (body_at (not second) old) before) in
    kept_staged _ _ _ _ _ _ (gate_kept second _ _ torn) loses staged

-- 2. the body after a closed gate may contain any bytes
pub filling : (second : Bool) (g : ℕ) (point : Point) (parts : List Portion) (n : ℕ)
    (old new : List ℕ) → n ≡ 127 → IsClosed second g point parts old
    → Torn (slot_place (not second) + 1) n old new → IsClosed second g point parts new
filling second g point parts n old new size is torn =
    let gate : gate_at (not second) new ≡ gate_at (not second) old =
    torn_body_gate (not second) _ _ _ torn in
    let closed : gate_at (not second) new ≡ 79 → ⊥ = λ open_now. is.closed (sym gate ∙ open_now) in
    record {
      staged = kept_staged _ _ _ _ _ _ (body_kept second _ _ _ size torn) (subst (Loses second g)
          (sym (closed_none (gate_at (not second) new) (body_at (not second) new) closed))
          (none_loses second g)) is.staged;
      closed = closed;
    }

next_loses : (second : Bool) (g : ℕ) (point : Point) (bytes : List ℕ) → slot_at second bytes ≡ Some
    (g, point) → Loses (not second) (g + 1) (slot_at (not (not second)) bytes)
next_loses true g point bytes is = subst (Loses false (g + 1)) (sym is) (omega arith)
next_loses false g point bytes is = subst (Loses true (g + 1)) (sym is) (omega arith)

-- 3. once the gate is open, the next generation is current
pub opened : (second : Bool) (g : ℕ) (point next : Point) (parts : List Portion)
    (old new : List ℕ) → FitBody (g + 1) next
    → IsFilled second g point next parts old → Torn (slot_place (not second)) 1 old new
    → gate_at (not second) new ≡ 79 → NamedIn (not second) (g + 1) next new
opened second g point next parts old new fit is torn open_now =
    let kept = gate_kept second old new torn in
    let now = is.closed.staged in
    let slot : slot_at second new ≡ Some (g, point) =
    open_reads _ (body_at second new) (kept.gate ∙ now.is_open) ∙ ap body_of kept.body ∙ now.body in
    record {
      is_open = open_now;
      body = ap body_of (torn_gate_body (not second) _ _ torn ∙ is.body) ∙ body_reads _ _ fit;
      other = next_loses second g point new slot;
    }

pub opening : (second : Bool) (g : ℕ) (point next : Point) (parts : List Portion)
    (old new : List ℕ) → FitBody (g + 1) next
    → IsFilled second g point next parts old → Torn (slot_place (not second)) 1 old new
    → IsSaving second g point next parts (KeepsFrames old) new
opening second g point next parts old new fit is torn =
    let kept = gate_kept second old new torn in
    ⊎_elim
    (λ yes. inr (
      opened second g point next parts old new fit is torn yes.1,
      kept.frames,
    ))
    (λ no. inl (kept_staged second g point parts old new kept
    (subst (Loses second g) (sym (closed_none (gate_at (not second) new) (body_at (not second) new)
    no.1)) (none_loses second g)) is.closed.staged))
    (eqb_tells (gate_at (not second) new) 79)

eq_from_test : (a b : ℕ) → true ≡ (a == b) → a ≡ b
eq_from_test a b is = ⊎_elim (λ yes. yes.1) (λ no. absurd (cc)) (eqb_tells a b)

pub alike_long : (n : ℕ) (old new : List ℕ) → n ≤ length old → take n new ≡ take n old
    → n ≤ length new
alike_long n old new le same = omega (arith, ap length same, length-take n old, length-take n new)

-- all contents that a crash may leave represent the acknowledged data, and have the other gate as
-- it is read
pub ready_each : (second : Bool) (g : ℕ) (point : Point) (parts : List Portion) (is_open : Bool)
    (seen : List ℕ) (may_leave : List ℕ → Type 0) (c : List ℕ)
    → Ready second g point parts is_open seen may_leave → may_leave c
    → StagedIn second g point parts c × (gate_at (not second) c ≡ gate_at (not second) seen)
ready_each second g point parts is_open seen may_leave c ready left =
    let n = 256 + point.staged in
    let same = ready.alike c left in
    let long = alike_long n seen c ready.staged.parts_are.long same in (
      alike_staged _ _ _ _ n _ c (omega arith) same long ready.staged,
      gate_alike (not second) n seen c (omega arith) same,
    )

pub ready_after : (second : Bool) (g : ℕ) (point : Point) (parts : List Portion) (seen : List ℕ)
    (may_leave : List ℕ → Type 0) (c : List ℕ) → Ready second g point parts true seen may_leave
    → After (Torn (slot_place (not second)) 1) may_leave c → StagedIn second g point parts c
ready_after second g point parts seen may_leave c ready (inl left) =
    (ready_each _ _ _ _ _ _ _ c ready left).0
ready_after second g point parts seen may_leave c ready (inr step) =
    let was = ready_each _ _ _ _ _ _ _ step.0 ready step.1 in
    closing _ _ _ _ _ _ (was.1 ∙ eq_from_test (gate_at (not second) seen) 79
    ready.gate) was.0 step.2

place_in : (second : Bool) (old : List ℕ) → 256 ≤ length old → slot_place second + 128 ≤ length old
place_in true old long = omega arith
place_in false old long = omega arith

-- the slots after the gate was closed
pub closed_done : (second : Bool) (g : ℕ) (point : Point) (parts : List Portion) (old new : List ℕ)
    (may_leave : List ℕ → Type 0) → Ready second g point parts true old may_leave
    → Holds old (slot_place (not second)) (67 ∷ []) new → IsClosed second g point parts new
closed_done second g point parts old new may_leave ready holds =
    let long = place_in (not second) old (omega (arith, ready.staged.parts_are.long)) in
    let torn = holds_torn (slot_place (not second)) (67 ∷ []) old new (omega arith) holds in
    let gate : gate_at (not second) new ≡ 67 =
    holds_byte (slot_place (not second)) 67 old new (omega arith) holds in
    record {
      staged = closing _ _ _ _ _ _
          (eq_from_test (gate_at (not second) old) 79 ready.gate) ready.staged torn;
      closed = λ open_now. absurd (omega (arith, gate, open_now));
    }

-- the slots after one was filled
pub filled_done : (second : Bool) (g : ℕ) (point : Point) (parts : List Portion)
    (body old new : List ℕ) → length body ≡ 127 → Holds old (slot_place (not second) + 1) body new
    → IsClosed second g point parts old → IsClosed second g point parts new
filled_done second g point parts body old new size holds is =
    let long = place_in (not second) old (omega (arith, is.staged.parts_are.long)) in
    filling second g point parts _ old new size is
    (holds_torn (slot_place (not second) + 1) body old new (omega arith) holds)

pub filled_body : (second : Bool) (body old new : List ℕ) → length body ≡ 127 → 256 ≤ length old
    → Holds old (slot_place second + 1) body new → body_at second new ≡ body
filled_body second body old new size long holds =
    let room = place_in second old long in
    subst (λ (n : ℕ). take n (drop (slot_place second + 1) new) ≡ body) size
    (holds_piece (slot_place second + 1) body old new (omega arith) holds)

-- the contents that a crash may leave while a slot is filled
pub filled_after : (second : Bool) (g : ℕ) (point : Point) (parts : List Portion)
    (body seen : List ℕ) (may_leave : List ℕ → Type 0) (c : List ℕ) → length body ≡ 127
    → IsClosed second g point parts seen → Only seen may_leave
    → After (Torn (slot_place (not second) + 1) (length body)) may_leave c
    → StagedIn second g point parts c
filled_after second g point parts body seen may_leave c size is only (inl left) =
    subst (StagedIn second g point parts) (sym (only c left)) is.staged
filled_after second g point parts body seen may_leave c size is only (inr step) =
    (filling second g point parts _ seen c size is
    (subst (λ (d : List ℕ). Torn (slot_place (not second) + 1) (length body) d c)
    (only step.0 step.1) step.2)).staged

-- the slots after the gate was opened
pub opened_done : (second : Bool) (g : ℕ) (point next : Point) (parts : List Portion)
    (old new : List ℕ) → FitBody (g + 1) next
    → IsFilled second g point next parts old → Holds old (slot_place (not second))
    (79 ∷ []) new → IsNext second (g + 1) next new
opened_done second g point next parts old new fit is holds =
    let long = place_in (not second) old (omega (arith, is.closed.staged.parts_are.long)) in
    let torn = holds_torn (slot_place (not second)) (79 ∷ []) old new (omega arith) holds in
    record {
      named = opened second g point next parts old new fit is torn
          (holds_byte (slot_place (not second)) 79 old new (omega arith) holds);
      gate = (gate_kept second _ _ torn).gate ∙ is.closed.staged.is_open;
    }

-- the contents that a crash may leave while the gate is opened
pub opened_after : (second : Bool) (g : ℕ) (point next : Point) (parts : List Portion)
    (seen : List ℕ) (may_leave : List ℕ → Type 0) (c : List ℕ) → FitBody (g + 1) next
    → IsFilled second g point next parts seen → Only seen may_leave
    → After (Torn (slot_place (not second)) 1) may_leave c
    → IsSaving second g point next parts (KeepsFrames seen) c
opened_after second g point next parts seen may_leave c fit is only (inl left) =
    inl (subst (StagedIn second g point parts) (sym (only c left)) is.closed.staged)
opened_after second g point next parts seen may_leave c fit is only (inr step) =
    opening second g point next parts seen c fit is
    (subst (λ (d : List ℕ). Torn (slot_place (not second)) 1 d c) (only step.0 step.1) step.2)
