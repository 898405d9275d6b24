-- Bytes that a call leaves unchanged, whatever its result.
use Rattle.std.proofs.Common.{◌≡◌, ℕ, ◌+◌, ◌≤◌, Bool, true, false, List, length, take, drop, ap}
use Rattle.std.proofs.Common.{◌∙◌, arith, not, ◌==◌, sym, inl, inr, subst}
use Rattle.std.proofs.lemmas.List.{take-take}
use Rattle.tape_stage.specs.Staged.{Holding, KeepsFrames, KeepsFront, gate_at, StagedIn}
use Rattle.tape_stage.specs.{Disk.Torn, Body.body_of}
use Rattle.tape_stage.specs.Staged.{Ready, FrontOf, NamedIn, IsEither, IsSaving, Loses, SameFrames}
use Rattle.tape_blocks.specs.Block.{Portion}
use Rattle.tape_stage.proofs.Tears.{alike_holding, alike_staged, frames_holding, gate_alike}
use Rattle.tape_stage.proofs.{Torn.alike_less, Torn.alike_piece, Tears.body_alike, Tears.slot_alike}
use Rattle.tape_stage.proofs.SlotSteps.{ready_each, alike_long}
use Rattle.tape_core.specs.Point.{Point}

pub frames_same : (old new : List ℕ) → new ≡ old → KeepsFrames old new
frames_same old new same = record {
  rest = ap (drop 256) same;
  long = omega (arith, ap length same);
}

pub frames_then : (a b c : List ℕ) → KeepsFrames a b → KeepsFrames b c → KeepsFrames a c
frames_then a b c first second = record {
  rest = second.rest ∙ first.rest;
  long = omega (arith, first.long, second.long);
}

pub torn_keeps : (place n m : ℕ) (old new : List ℕ) → m ≤ place → Torn place n old new
    → KeepsFront m old new
torn_keeps place n m old new le torn = record {
  front = alike_less _ m _ _ le torn.before;
  long = torn.no_shorter;
}

pub kept_front_holding : (weight : ℕ) (parts : List Portion) (old new : List ℕ)
    → KeepsFront (256 + weight) old new → Holding weight parts old → Holding weight parts new
kept_front_holding weight parts old new kept holding =
    alike_holding (256 + weight) weight parts old new (omega arith) kept.front
    (omega (arith, kept.long, holding.long)) holding

-- a slot that names a checkpoint whose parts have frames
pub named_staged : (second : Bool) (g : ℕ) (point : Point) (parts : List Portion) (bytes : List ℕ)
    → NamedIn second g point bytes → Holding point.staged parts bytes
    → StagedIn second g point parts bytes
named_staged second g point parts bytes named holding = record {
  is_open = named.is_open;
  body = named.body;
  other = named.other;
  parts_are = holding;
}

pub either_saved : (second : Bool) (g : ℕ) (point next : Point) (parts more : List Portion)
    (old bytes : List ℕ) → Holding next.staged more old
    → IsSaving second g point next parts (KeepsFrames old) bytes
    → IsEither second g point next parts more bytes
either_saved second g point next parts more old bytes holding (inl staged) = inl staged
either_saved second g point next parts more old bytes holding (inr next_is) =
    inr (named_staged (not second) (g + 1) next more bytes next_is.0
    (frames_holding next.staged more old bytes next_is.1 holding))

pub saving_then : (second : Bool) (g : ℕ) (point next : Point) (parts : List Portion)
    (a b bytes : List ℕ) → KeepsFrames a b
    → IsSaving second g point next parts (KeepsFrames b) bytes
    → IsSaving second g point next parts (KeepsFrames a) bytes
saving_then second g point next parts a b bytes kept (inl staged) = inl staged
saving_then second g point next parts a b bytes kept (inr next_is) =
    inr (next_is.0, frames_then a b bytes kept next_is.1)

pub saving_front : (second : Bool) (g : ℕ) (point next : Point) (parts : List Portion) (most : ℕ)
    (old bytes : List ℕ) → IsSaving second g point next parts (KeepsFrames old) bytes
    → IsSaving second g point next parts (SameFrames most old) bytes
saving_front second g point next parts most old bytes (inl staged) = inl staged
saving_front second g point next parts most old bytes (inr next_is) =
    inr (next_is.0, ap (take most) next_is.1.rest)

-- bytes with the same prefix name the same checkpoint
named_alike : (second : Bool) (g : ℕ) (point : Point) (n : ℕ) (old new : List ℕ) → 256 ≤ n
    → take n new ≡ take n old → NamedIn second g point old → NamedIn second g point new
named_alike second g point n old new le same named = record {
  is_open = gate_alike second n old new le same ∙ named.is_open;
  body = ap body_of (body_alike second n old new le same) ∙ named.body;
  other = subst (Loses second g) (sym (slot_alike (not second) n old new le same)) named.other;
}

-- contents that were cut after a checkpoint was saved
pub cut_named : (second : Bool) (g staged : ℕ) (point : Point) (old bytes : List ℕ)
    (left : List ℕ → Type 0) → staged ≡ point.staged
    → ((c : List ℕ) → left c → NamedIn second g point c × KeepsFrames old c)
    → FrontOf (256 + staged) left bytes
    → NamedIn second g point bytes × SameFrames point.staged old bytes
cut_named second g staged point old bytes left is each of =
    let was = each of.0 of.1 in (
      named_alike second g point (256 + staged) of.0 bytes (omega arith) of.2 was.0,
      alike_piece (256 + staged) 256 point.staged of.0 bytes (omega (arith, is)) of.2
          ∙ ap (take point.staged) was.1.rest,
    )

pub frames_cut : (staged most : ℕ) (old mid new : List ℕ) → staged ≡ most → KeepsFrames old mid
    → new ≡ take (256 + staged) mid → SameFrames most old new
frames_cut staged most old mid new is kept cut =
    let n = 256 + staged in
    alike_piece n 256 most mid new (omega (arith, is))
    (ap (take n) cut ∙ take-take n n mid (omega arith)) ∙ ap (take most) kept.rest

pub gate_test : (second : Bool) (bytes : List ℕ) → gate_at second bytes ≡ 79
    → true ≡ (gate_at (not (not second)) bytes == 79)
gate_test true bytes is = sym (ap (λ (n : ℕ). n == 79) is)
gate_test false bytes is = sym (ap (λ (n : ℕ). n == 79) is)

-- contents that may be left begin with the acknowledged data
pub front_staged : (second : Bool) (g : ℕ) (point : Point) (parts : List Portion) (is_open : Bool)
    (place : ℕ) (seen : List ℕ) (may_leave : List ℕ → Type 0) (c : List ℕ)
    → 256 + point.staged ≤ place → Ready second g point parts is_open seen may_leave
    → FrontOf place may_leave c → StagedIn second g point parts c
front_staged second g point parts is_open place seen may_leave c le ready of =
    let n = 256 + point.staged in
    let was = (ready_each _ _ _ _ _ _ _ of.0 ready of.1).0 in
    let same = alike_less place n of.0 c le of.2 in
    alike_staged _ _ _ _ n _ c (omega arith) same (alike_long n of.0 c was.parts_are.long same) was

-- the stage is ready for the next call after a call that preserves the first bytes
pub still_ready : (second : Bool) (g : ℕ) (point : Point) (parts : List Portion) (is_open : Bool)
    (place : ℕ) (old new : List ℕ) (left now : List ℕ → Type 0) → 256 + point.staged ≤ place
    → Ready second g point parts is_open old left → take place new ≡ take place old
    → place ≤ length new → ((c : List ℕ) → now c → FrontOf place left c)
    → Ready second g point parts is_open new now
still_ready second g point parts is_open place old new left now le ready same long each =
    let n = 256 + point.staged in
    let front = alike_less place n old new le same in
    record {
      staged = alike_staged _ _ _ _ n _ new (omega arith) front (omega arith) ready.staged;
      gate = ready.gate
          ∙ ap (λ (b : ℕ). b == 79) (sym (gate_alike (not second) n old new (omega arith) front));
      alike = λ c may. let of = each c may in
          alike_less place n of.0 c le of.2 ∙ ready.alike of.0 of.1 ∙ sym front;
    }
