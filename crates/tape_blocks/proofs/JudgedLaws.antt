-- The result of a check agrees with the contents of the block: it passes if it contains parts in
-- span order, and otherwise has the fault returned.
use Rattle.std.proofs.Common.{arith, ◌≡◌, ℕ, ◌+◌, ◌≤◌, Bool, true, false, ltb, List, length, Option}
use Rattle.std.proofs.Common.{Some, None, Result, Ok, Err, refl, sym, ap, subst, ◌∙◌, inl, inr}
use Rattle.std.proofs.lemmas.Bool.{ltb-true, ltb-false}
use Rattle.std.specs.Prelude.{if◌then◌else◌, IfOk, IfErr}
use Rattle.tape_label.specs.declared.values.Format.{Format}
use Rattle.tape_label.specs.declared.values.Format.TheVariants.{Fixed}
use Rattle.tape_blocks.specs.declared.check.BlockCause.TheVariants.{SpanBroken}
use Rattle.tape_blocks.specs.Faults.{bool_eq, FaultStands, HasUnitFault, fault}
use Rattle.tape_blocks.specs.{declared.check.BlockFault.BlockFault, declared.check.Found.Found}
use Rattle.tape_blocks.specs.{Block.Portion, Block.spellings, Block.HoldsUnits, Judged.unless_fault}
use Rattle.tape_blocks.specs.{Judged.judged_units, Spans.continues, Spans.InOrder, Units.unit_at}
use Rattle.tape_blocks.proofs.TestLaws.{stop_by, moved, tests_are}
use Rattle.tape_blocks.proofs.PaddingLaws.{padding_found, padding_again}
use Rattle.tape_blocks.proofs.LongestFronts.{Ends, judged_at, judged_by_step, judged_short}
use Rattle.tape_blocks.proofs.LongestFronts.{walk_block, ends_of}
use Rattle.tape_blocks.proofs.{FrontLaws.NoUnit, FrontLaws.longest, PartsLaws.some_of}

-- ---- a block that passes contains parts in order

abbrev PassesUnits : Format → ℕ → ℕ → Bool → List ℕ → Bool → Type 0
PassesUnits format rec_len offset begun block end =
    (parts : List Portion) × HoldsUnits format rec_len offset block parts × InOrder begun parts end

ok_is : (x y : Bool) → unless_fault x None ≡ Ok y → x ≡ y
ok_is x y e = cc

passes_by : (u : Result (Option Found) BlockFault) (format : Format) (rec_len offset : ℕ)
    (begun : Bool) (block : List ℕ) (ps : List Portion) (end last : Bool) (rest : List ℕ)
    → (format ≡ Fixed → 1 ≤ rec_len) → Ends format rec_len offset begun block ps end rest
    → unit_at format rec_len rest ≡ u → NoUnit end u
    → judged_units format rec_len offset begun block ≡ Ok last
    → PassesUnits format rec_len offset begun block last
passes_by (Err f) format rec_len offset begun block ps end last rest some ends e none is =
    absurd (let by =
    judged_by_step format rec_len offset begun block ps end rest (Err f) some ends e in cc)
passes_by (Ok None) format rec_len offset begun block ps end last rest some ends e none is =
    let same : end ≡ last = ok_is end last (sym (judged_by_step format rec_len offset begun block ps
    end rest (Ok None) some ends e) ∙ is) in (
      ps,
      (rest, ends.front.begins, padding_found format rec_len rest e),
      subst (λ (b : Bool). InOrder begun ps b) same ends.front.order,
    )
passes_by (Ok (Some found)) format rec_len offset begun block ps end last rest some ends e none is =
    absurd (let by = judged_by_step format rec_len offset begun block ps end rest
    (Ok (Some found)) some ends e ∙ rw none refl in
    let other : Err (fault (offset + length (spellings format ps) + 0) SpanBroken) ≡ Ok last =
    sym by ∙ is in cc)

reaches_by : (b : Bool) (format : Format) (rec_len offset : ℕ) (begun last : Bool) (block : List ℕ)
    → ltb (length block) offset ≡ b → judged_units format rec_len offset begun block ≡ Ok last
    → offset ≤ length block
reaches_by true format rec_len offset begun last block e is = grind (arith, judged_short, ltb-true)
reaches_by false format rec_len offset begun last block e is = ltb-false _ _ e

-- A block that passes contains parts in span order.
pub judged_found : (format : Format) (rec_len offset : ℕ) (begun end : Bool) (block : List ℕ)
    → (format ≡ Fixed → 1 ≤ rec_len) → judged_units format rec_len offset begun block ≡ Ok end
    → PassesUnits format rec_len offset begun block end
judged_found format rec_len offset begun end block some is =
    let reaches =
    reaches_by (ltb (length block) offset) format rec_len offset begun end block refl is in
    let w = walk_block format rec_len offset begun block some in
    passes_by (unit_at format rec_len w.rest) format rec_len offset begun block w.parts w.end end
    w.rest some (ends_of format rec_len offset begun block reaches w) refl w.none is

-- A block that contains parts in span order passes.
pub judged_only : (format : Format) (rec_len offset : ℕ) (begun
    end : Bool) (block : List ℕ) (parts : List Portion)
    → HoldsUnits format rec_len offset block parts
    → InOrder begun parts end → judged_units format rec_len offset begun block ≡ Ok end
judged_only format rec_len offset begun end block parts holds order =
    let some = some_of format rec_len holds.0 holds.2 in
    let none : unit_at format rec_len holds.0 ≡ Ok None =
    padding_again format rec_len holds.0 holds.2 in
    let ends : Ends format rec_len offset begun block parts end holds.0 =
    record {
      front = record { begins = holds.1; order = order };
      none = subst (λ (u : Result (Option Found) BlockFault). NoUnit end u) (sym none) tt;
    } in
    judged_by_step format rec_len offset begun block parts end holds.0 (Ok None) some ends none

-- ---- a block that does not pass has the fault returned

fault_is : (end : Bool) (o : Option BlockFault) (f : BlockFault) → unless_fault end o ≡ Err f
    → o ≡ Some f
fault_is end None f e = absurd cc
fault_is end (Some g) f e = grind arith

stands_by : (format : Format) (rec_len offset : ℕ) (begun : Bool) (block : List ℕ)
    (ps : List Portion) (end : Bool) (rest : List ℕ) (f : BlockFault)
    → (format ≡ Fixed → 1 ≤ rec_len) → Ends format rec_len offset begun block ps end rest
    → judged_units format rec_len offset begun block ≡ Err f
    → FaultStands format rec_len offset begun block f
stands_by format rec_len offset begun block ps end rest f some ends is = record {
  parts = ps;
  end = end;
  rest = rest;
  front = ends.front;
  longest = λ others last left other. longest format rec_len offset begun end last block ps others
      rest left ends.none ends.front other;
  first = fault_is end _ f
      (sym (judged_at format rec_len offset begun block ps end rest some ends) ∙ is);
}

fault_by : (b : Bool) (format : Format) (rec_len
    offset : ℕ) (begun : Bool) (block : List ℕ) (f : BlockFault) → ltb (length block) offset ≡ b
    → (format ≡ Fixed → 1 ≤ rec_len) → judged_units format rec_len offset begun block ≡ Err f
    → HasUnitFault format rec_len offset begun block f
fault_by true format rec_len offset begun block f e some is = grind (arith, ltb-true, judged_short)
fault_by false format rec_len offset begun block f e some is =
    let reaches = ltb-false _ _ e in
    let w = walk_block format rec_len offset begun block some in
    inr (
      reaches,
      stands_by format rec_len offset begun block w.parts w.end w.rest f some
          (ends_of format rec_len offset begun block reaches w) is,
    )

-- A block that does not pass has the fault returned.
pub judged_fault : (format : Format) (rec_len
    offset : ℕ) (begun : Bool) (block : List ℕ) (f : BlockFault) → (format ≡ Fixed → 1 ≤ rec_len)
    → judged_units format rec_len offset begun block ≡ Err f
    → HasUnitFault format rec_len offset begun block f
judged_fault format rec_len offset begun block f some is =
    fault_by (ltb (length block) offset) format rec_len offset begun block f refl some is

-- ---- the fault of a block is returned

not_in_order : (b : Bool) (at : ℕ) (f : BlockFault)
    → moved at (if b then None else Some (fault 0 SpanBroken)) ≡ Some f → b ≡ false
not_in_order true at f e = absurd cc
not_in_order false at f e = refl

-- If a test fails, no unit in span order begins here.
never_by : (u : Result (Option Found) BlockFault) (end : Bool) (at : ℕ) (f : BlockFault)
    → moved at (stop_by end u) ≡ Some f → NoUnit end u
never_by (Err g) end at f e = tt
never_by (Ok None) end at f e = tt
never_by (Ok (Some found)) end at f e = not_in_order (bool_eq (continues found.span) end) at f e

pub judged_by_fault : (format : Format) (rec_len offset : ℕ) (begun : Bool) (block : List ℕ)
    (f : BlockFault) → (format ≡ Fixed → 1 ≤ rec_len)
    → HasUnitFault format rec_len offset begun block f
    → judged_units format rec_len offset begun block ≡ Err f
judged_by_fault format rec_len offset begun block f some (inl (short, is)) =
    grind (arith, judged_short)
judged_by_fault format rec_len offset begun block f some (inr (reaches, s)) =
    let at = offset + length (spellings format s.parts) in
    let none = never_by (unit_at format rec_len s.rest) s.end at f
    (sym (tests_are format rec_len s.end at s.rest) ∙ s.first) in
    judged_at format rec_len offset begun block s.parts s.end s.rest some record {
      front = s.front;
      none = none;
    } ∙ ap (unless_fault s.end) s.first

-- ---- the same for a result

pub answer_passes : (r : Result Bool BlockFault) (format : Format) (rec_len
    offset : ℕ) (begun : Bool) (block : List ℕ) → (format ≡ Fixed → 1 ≤ rec_len)
    → r ≡ judged_units format rec_len offset begun block → IfOk r (λ end. (parts : List Portion)
    × HoldsUnits format rec_len offset block parts × InOrder begun parts end)
answer_passes (Ok end) format rec_len offset begun block some e = grind (arith, judged_found)
answer_passes (Err f) format rec_len offset begun block some e = tt

pub answer_faults : (r : Result Bool BlockFault) (format : Format) (rec_len
    offset : ℕ) (begun : Bool) (block : List ℕ) → (format ≡ Fixed → 1 ≤ rec_len)
    → r ≡ judged_units format rec_len offset begun block
    → IfErr r (HasUnitFault format rec_len offset begun block)
answer_faults (Ok end) format rec_len offset begun block some e = tt
answer_faults (Err f) format rec_len offset begun block some e = grind (arith, judged_fault)
