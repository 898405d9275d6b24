-- The effect of torn and of completed writes on the slots.
use Rattle.std.proofs.Common.{◌≡◌, ℕ, ◌+◌, ◌≤◌, Bool, true, false, not, List, length, take}
use Rattle.std.proofs.Common.{Option, Some, None, if◌then◌else◌, ◌==◌, nat_lt, refl, sym, ap, ◌∙◌}
use Rattle.std.proofs.Common.{subst, arith}
use Rattle.std.proofs.{lemmas.Bool.ne_eqb, lemmas.Bool.lt-ltb, lemmas.Bool.Decides.nat_tests}
use Rattle.tape_stage.specs.Staged.{slot_place, gate_at, body_at, read_slot, slot_at, best, Holding}
use Rattle.tape_stage.specs.Staged.{Staged, Loses, StagedIn, KeepsFrames}
use Rattle.tape_stage.specs.{Disk.Torn, Body.body_of, Body.Slot}
use Rattle.tape_blocks.specs.Block.{Portion}
use Rattle.tape_core.specs.Point.{Point}
use Rattle.tape_stage.proofs.Torn.{alike_piece, alike_byte, later_rest, later_byte}

le-ltb-false : (m n : ℕ) → n ≤ m → nat_lt m n ≡ false
le-ltb-false m n le = grind (arith, nat_tests)

-- one slot and the frames are unchanged
pub record KeptIn (second : Bool) (old new : List ℕ) : Type 0 where
  pub gate : gate_at second new ≡ gate_at second old
  pub body : body_at second new ≡ body_at second old
  pub frames : KeepsFrames old new

-- a write within the other slot
pub torn_other : (second : Bool) (p n : ℕ) (old new : List ℕ) → slot_place (not second) ≤ p
    → p + n ≤ slot_place (not second) + 128 → Torn p n old new → KeptIn second old new
torn_other false p n old new low high torn = record {
  gate = alike_byte p 0 _ _ (omega arith) torn.before;
  body = alike_piece p 1 127 _ _ (omega arith) torn.before;
  frames = record {
    rest = later_rest (p + n) 256 _ _ (omega arith) torn.after;
    long = torn.no_shorter;
  };
}
torn_other true p n old new low high torn = record {
  gate = later_byte (p + n) 128 _ _ (omega arith) torn.after;
  body = ap (take 127) (later_rest (p + n) 129 _ _ (omega arith) torn.after);
  frames = record {
    rest = later_rest (p + n) 256 _ _ (omega arith) torn.after;
    long = torn.no_shorter;
  };
}

-- a write of the gate preserves the body, and a write of the body preserves the gate
pub torn_gate_body : (second : Bool) (old new : List ℕ) → Torn (slot_place second) 1 old new
    → body_at second new ≡ body_at second old
torn_gate_body false old new torn = ap (take 127) (later_rest 1 1 old new (omega arith) torn.after)
torn_gate_body true old new torn =
    ap (take 127) (later_rest 129 129 old new (omega arith) torn.after)

pub torn_body_gate : (second : Bool) (n : ℕ) (old new : List ℕ)
    → Torn (slot_place second + 1) n old new → gate_at second new ≡ gate_at second old
torn_body_gate false n old new torn = alike_byte 1 0 old new (omega arith) torn.before
torn_body_gate true n old new torn = alike_byte 129 128 old new (omega arith) torn.before

pub frames_holding : (weight : ℕ) (parts : List Portion) (old new : List ℕ) → KeepsFrames old new
    → Holding weight parts old → Holding weight parts new
frames_holding weight parts old new kept holding = record {
  long = omega (arith, kept.long, holding.long);
  frames_are = ap (take weight) kept.rest ∙ holding.frames_are;
  short = holding.short;
}

-- bytes with the same prefix
pub alike_holding : (n weight : ℕ) (parts : List Portion) (old new : List ℕ) → 256 + weight ≤ n
    → take n new ≡ take n old → n ≤ length new → Holding weight parts old → Holding weight parts new
alike_holding n weight parts old new le same long holding = record {
  long = omega arith;
  frames_are = alike_piece n 256 weight old new le same ∙ holding.frames_are;
  short = holding.short;
}

pub gate_alike : (second : Bool) (n : ℕ) (old new : List ℕ) → 256 ≤ n → take n new ≡ take n old
    → gate_at second new ≡ gate_at second old
gate_alike false n old new le same = alike_byte n 0 old new (omega arith) same
gate_alike true n old new le same = alike_byte n 128 old new (omega arith) same

pub body_alike : (second : Bool) (n : ℕ) (old new : List ℕ) → 256 ≤ n → take n new ≡ take n old
    → body_at second new ≡ body_at second old
body_alike false n old new le same = alike_piece n 1 127 old new (omega arith) same
body_alike true n old new le same = alike_piece n 129 127 old new (omega arith) same

pub slot_alike : (second : Bool) (n : ℕ) (old new : List ℕ) → 256 ≤ n → take n new ≡ take n old
    → slot_at second new ≡ slot_at second old
slot_alike second n old new le same =
    ap (λ (g : ℕ). read_slot g (body_at second new)) (gate_alike second n old new le same)
    ∙ ap (read_slot (gate_at second old)) (body_alike second n old new le same)

pub alike_staged : (second : Bool) (g : ℕ) (point : Point) (parts : List Portion) (n : ℕ)
    (old new : List ℕ) → 256 + point.staged ≤ n → take n new ≡ take n old → n ≤ length new
    → StagedIn second g point parts old → StagedIn second g point parts new
alike_staged second g point parts n old new le same long staged = record {
  is_open = gate_alike second n old new (omega arith) same ∙ staged.is_open;
  body = ap body_of (body_alike second n old new (omega arith) same) ∙ staged.body;
  other = subst (Loses second g) (sym (slot_alike (not second) n old new (omega arith) same))
      staged.other;
  parts_are = alike_holding n _ _ _ new le same long staged.parts_are;
}

pub none_loses : (second : Bool) (g : ℕ) → Loses second g None
none_loses true g = tt
none_loses false g = tt

-- a slot whose gate may contain any byte replaces the other at most as if it were open
pub loses_gate : (second : Bool) (g gate : ℕ) (body : List ℕ) → Loses second g (body_of body)
    → Loses second g (read_slot gate body)
loses_gate second g gate body loses = by_test (gate == 79)
  where
    by_test : (b : Bool) → Loses second g (if b then body_of body else None)
    by_test true = loses
    by_test false = none_loses second g

-- a slot whose gate is closed does not count
pub closed_none : (gate : ℕ) (body : List ℕ) → (gate ≡ 79 → ⊥) → read_slot gate body ≡ None
closed_none gate body closed = ap (λ (b : Bool). if b then body_of body else None)
    (ne_eqb gate 79 closed)

pub open_reads : (gate : ℕ) (body : List ℕ) → gate ≡ 79 → read_slot gate body ≡ body_of body
open_reads gate body is = ap (λ (g : ℕ). read_slot g body) is

-- the named slot is the current one
pub best_named : (second : Bool) (g : ℕ) (point : Point) (other : Option Slot) → Loses second g
    other → (if second then best other (Some (g, point)) else best (Some (g, point)) other)
    ≡ Some (g, point)
best_named false g point None loses = refl
best_named false g point (Some other) loses =
    ap (λ (b : Bool). if b then Some other else Some (g, point)) (le-ltb-false g other.0 loses)
best_named true g point None loses = refl
best_named true g point (Some other) loses =
    ap (λ (b : Bool). if b then Some (g, point) else Some other) (lt-ltb other.0 g loses)

pub best_of : (second : Bool) (g : ℕ) (point : Point) (bytes : List ℕ) → slot_at second bytes ≡ Some
    (g, point) → Loses second g (slot_at (not second) bytes) → best (slot_at false bytes)
    (slot_at true bytes) ≡ Some (g, point)
best_of false g point bytes is loses = ap (λ (s : Option Slot). best s (slot_at true bytes)) is
    ∙ best_named false g point (slot_at true bytes) loses
best_of true g point bytes is loses = ap (λ (s : Option Slot). best (slot_at false bytes) s) is
    ∙ best_named true g point (slot_at false bytes) loses

pub staged_named : (second : Bool) (g : ℕ) (point : Point) (parts : List Portion) (bytes : List ℕ)
    → StagedIn second g point parts bytes → Staged bytes g point parts
staged_named second g point parts bytes staged = record {
  slot = best_of second g point bytes (open_reads _ (body_at second bytes) staged.is_open
      ∙ staged.body) staged.other;
  parts_are = staged.parts_are;
}
