-- The longest prefix of units in span order: each block has such a prefix, and the bytes after it
-- determine the result of a check.
use Rattle.std.proofs.Common.{◌≡◌, ℕ, zero, suc, ◌+◌, ◌<◌, ◌≤◌, Bool, true, false, List, [], ◌∷◌}
use Rattle.std.proofs.Common.{◌++◌, length, drop, Option, Some, None, Result, Ok, Err, refl, sym}
use Rattle.std.proofs.Common.{ap, subst, ◌∙◌, arith, length-append}
use Rattle.std.proofs.lemmas.Bool.{le-ltb, lt-ltb}
use Rattle.std.proofs.lemmas.List.{drop-drop, drop_at, append-nil, length-drop}
use Rattle.std.specs.List.{AllByRecursion}
use Rattle.tape_label.specs.declared.values.Format.{Format}
use Rattle.tape_label.specs.declared.values.Format.TheVariants.{Fixed}
use Rattle.tape_blocks.specs.{declared.check.BlockCause.TheVariants.ShortOffset, Units.unit_at}
use Rattle.tape_blocks.specs.Block.{Portion, spelling, spellings, IsUnit}
use Rattle.tape_blocks.specs.Faults.{bool_eq, first_fault, tests, IsFront, fault}
use Rattle.tape_blocks.specs.Judged.{in_order, begun_behind, unless_fault, judged_behind}
use Rattle.tape_blocks.specs.Judged.{judged_units}
use Rattle.tape_blocks.specs.Spans.{continues, leaves, InOrder}
use Rattle.tape_blocks.specs.{declared.check.BlockFault.BlockFault, declared.check.Found.Found}
use Rattle.tape_blocks.specs.Parts.{portion, parts_of}
use Rattle.tape_blocks.proofs.PartsLaws.{parts_front, parts_next, parts_end, parts_fault}
use Rattle.tape_blocks.proofs.FrontLaws.{NoUnit, spellings_first, bool_eq-true, bool_eq-same}
use Rattle.tape_blocks.proofs.{PartsLaws.found_size, UnitLaws.unit_found}
use Rattle.tape_blocks.proofs.TestLaws.{stop_by, moved, tests_are}

-- ---- a prefix that no unit in span order follows

in_order-front : (begun end : Bool) (ps qs : List Portion) → InOrder begun ps end
    → in_order begun (ps ++ qs) ≡ ps ++ in_order end qs
in_order-front begun end [] qs order = ap (λ (b : Bool). in_order b qs) order
in_order-front begun end (p ∷ ps) qs order =
    grind (arith, bool_eq-same, in_order-front (leaves p.span) end ps qs order.1)

begun_behind-front : (begun end : Bool) (ps : List Portion) → InOrder begun ps end
    → begun_behind begun ps ≡ end
begun_behind-front begun end [] order = order
begun_behind-front begun end (p ∷ ps) order = begun_behind-front (leaves p.span) end ps order.1

none_by : (u : Result (Option Found) BlockFault) (format : Format) (rec_len : ℕ) (end : Bool)
    (rest : List ℕ) → (format ≡ Fixed → 1 ≤ rec_len) → unit_at format rec_len rest ≡ u
    → NoUnit end u → in_order end (parts_of format rec_len rest) ≡ []
none_by (Err f) format rec_len end rest some e never = grind (arith, in_order, parts_fault)
none_by (Ok None) format rec_len end rest some e never = grind (arith, in_order, parts_end)
none_by (Ok (Some found)) format rec_len end rest some e never =
    ap (in_order end) (parts_next format rec_len rest found some e) ∙ rw never refl

-- such a prefix of a block, and the result of a step after it
pub record Ends (format : Format) (rec_len offset : ℕ) (begun : Bool) (block : List ℕ)
    (ps : List Portion) (end : Bool) (rest : List ℕ) : Type 0 where
  pub front : IsFront format rec_len offset begun block ps end rest
  pub none : NoUnit end (unit_at format rec_len rest)

-- The bytes after such a prefix determine the result of a check.
pub judged_at : (format : Format) (rec_len offset : ℕ) (begun : Bool) (block : List ℕ)
    (ps : List Portion) (end : Bool) (rest : List ℕ) → (format ≡ Fixed → 1 ≤ rec_len)
    → Ends format rec_len offset begun block ps end rest
    → judged_units format rec_len offset begun block ≡ unless_fault end (first_fault
    (tests format rec_len end (offset + length (spellings format ps)) rest))
unfolding judged_units
judged_at format rec_len offset begun block ps end rest some ends =
    let front = ends.front in
    let size = length (spellings format ps) in
    let none = none_by (unit_at format rec_len rest) format rec_len end rest some refl ends.none in
    let parts : in_order begun (parts_of format rec_len (drop offset block)) ≡ ps =
    ap (in_order begun) (parts_front format rec_len ps
    (drop offset block) rest some front.begins.units front.begins.body)
    ∙ in_order-front begun end ps (parts_of format rec_len rest) front.order
    ∙ ap (λ (qs : List Portion). ps ++ qs) none ∙ append-nil ps in
    let left : drop (offset + size) block ≡ rest = sym (drop-drop size offset block)
    ∙ ap (drop size) front.begins.body ∙ drop_at (spellings format ps) rest size refl in
    rw (le-ltb _ _ front.begins.reaches) (
    ap (judged_behind format rec_len offset begun block) parts
    ∙ ap (λ (e : Bool). unless_fault e (first_fault (tests format rec_len e
    (offset + size) (drop (offset + size) block)))) (begun_behind-front begun end ps front.order)
    ∙ ap (λ (r : List ℕ). unless_fault end (first_fault
    (tests format rec_len end (offset + size) r))) left
    )

-- The step after such a prefix determines the result of a check.
pub judged_by_step : (format : Format) (rec_len offset : ℕ) (begun : Bool) (block : List ℕ)
    (ps : List Portion) (end : Bool) (rest : List ℕ) (u : Result (Option Found) BlockFault)
    → (format ≡ Fixed → 1 ≤ rec_len) → Ends format rec_len offset begun block ps end rest
    → unit_at format rec_len rest ≡ u → judged_units format rec_len offset begun block
    ≡ unless_fault end (moved (offset + length (spellings format ps)) (stop_by end u))
judged_by_step format rec_len offset begun block ps end rest u some ends e =
    judged_at format rec_len offset begun block ps end rest some ends
    ∙ ap (unless_fault end) (tests_are format rec_len end (offset + length (spellings format ps))
    rest ∙ ap (λ (v : Result (Option Found) BlockFault). moved (offset
    + length (spellings format ps)) (stop_by end v)) e)

-- The step at which a walk over the block ends determines the result of a check.
pub judged_where : (format : Format) (rec_len offset : ℕ) (begun : Bool) (block : List ℕ)
    (ps : List Portion) (going : Bool) (place : ℕ) (u : Result (Option Found) BlockFault)
    → (format ≡ Fixed → 1 ≤ rec_len) → place ≤ length block
    → IsFront format rec_len offset begun block ps going (drop place block)
    → unit_at format rec_len (drop place block) ≡ u → NoUnit going u
    → judged_units format rec_len offset begun block
    ≡ unless_fault going (moved place (stop_by going u))
judged_where format rec_len offset begun block ps going place u some inside front e none =
    let rest = drop place block in
    let never = subst (λ (v : Result (Option Found) BlockFault). NoUnit going v) (sym e) none in
    let long = ap length front.begins.body in
    let at : offset + length (spellings format ps) ≡ place =
    omega (
      arith,
      long,
      length-append (spellings format ps) rest,
      length-drop place block,
      length-drop offset block,
      inside,
      front.begins.reaches,
    ) in
    judged_by_step format rec_len offset begun block ps going rest u some
    record { front = front; none = never } e
    ∙ ap (λ (n : ℕ). unless_fault going (moved n (stop_by going u))) at

pub judged_short : (format : Format) (rec_len offset : ℕ) (begun : Bool) (block : List ℕ)
    → length block < offset
    → judged_units format rec_len offset begun block ≡ Err (fault 0 ShortOffset)
unfolding judged_units
judged_short format rec_len offset begun block short = rw (lt-ltb _ _ short) refl

-- ---- each block has such a prefix

pub record Walked (format : Format) (rec_len : ℕ) (begun : Bool) (bytes : List ℕ) : Type 0 where
  pub parts : List Portion
  pub end : Bool
  pub rest : List ℕ
  pub units : AllByRecursion (IsUnit format rec_len) parts
  pub body : bytes ≡ spellings format parts ++ rest
  pub order : InOrder begun parts end
  pub none : NoUnit end (unit_at format rec_len rest)

stays : (format : Format) (rec_len : ℕ) (begun : Bool) (bytes : List ℕ)
    → NoUnit begun (unit_at format rec_len bytes) → Walked format rec_len begun bytes
stays format rec_len begun bytes none = grind arith

goes : (format : Format) (rec_len : ℕ) (begun : Bool) (bytes : List ℕ) (found : Found)
    → unit_at format rec_len bytes ≡ Ok (Some found) → bool_eq (continues found.span) begun ≡ true
    → Walked format rec_len (leaves found.span) (drop found.len bytes)
    → Walked format rec_len begun bytes
goes format rec_len begun bytes found e follows walked =
    let stands = unit_found format rec_len bytes found e in
    let p = portion found bytes in
    record {
      parts = p ∷ walked.parts;
      end = walked.end;
      rest = walked.rest;
      units = (stands.unit, walked.units);
      body = stands.whole ∙ ap (λ (s : List ℕ). spelling format p ++ s) walked.body
          ∙ sym (spellings_first format p walked.parts walked.rest);
      order = (bool_eq-true (continues found.span) begun follows, walked.order);
      none = walked.none;
    }

walk_on : (b : Bool) (format : Format) (rec_len : ℕ) (begun : Bool) (bytes : List ℕ) (found : Found)
    → unit_at format rec_len bytes ≡ Ok (Some found) → bool_eq (continues found.span) begun ≡ b
    → Walked format rec_len (leaves found.span) (drop found.len bytes)
    → Walked format rec_len begun bytes
walk_on true format rec_len begun bytes found e is walked = grind (arith, goes)
walk_on false format rec_len begun bytes found e is walked = grind (arith, stays)

walk_by : (u : Result (Option Found) BlockFault)
    (n : ℕ) (format : Format) (rec_len : ℕ) (begun : Bool) (bytes : List ℕ)
    → (format ≡ Fixed → 1 ≤ rec_len) → unit_at format rec_len bytes ≡ u → length bytes < suc n
    → ((begun : Bool) (rest : List ℕ) → length rest < n → Walked format rec_len begun rest)
    → Walked format rec_len begun bytes
walk_by (Err f) n format rec_len begun bytes some e fits others = grind (arith, stays)
walk_by (Ok None) n format rec_len begun bytes some e fits others = grind (arith, stays)
walk_by (Ok (Some found)) n format rec_len begun bytes some e fits others =
    let size = found_size format rec_len bytes found some e in
    walk_on (bool_eq (continues found.span) begun) format rec_len begun bytes found e refl
    (others (leaves found.span) (drop found.len bytes)
    (omega (arith, length-drop found.len bytes, size.0, size.1)))

walk : (n : ℕ) (format : Format) (rec_len : ℕ) (begun : Bool) (bytes : List ℕ)
    → (format ≡ Fixed → 1 ≤ rec_len) → length bytes < n → Walked format rec_len begun bytes
walk zero format rec_len begun bytes some fits = absurd (omega arith)
walk (suc n) format rec_len begun bytes some fits = walk_by (unit_at format rec_len bytes) n format
    rec_len begun bytes some refl fits (λ b rest less. walk n format rec_len b rest some less)

pub walk_block : (format : Format) (rec_len offset : ℕ) (begun : Bool) (block : List ℕ)
    → (format ≡ Fixed → 1 ≤ rec_len) → Walked format rec_len begun (drop offset block)
walk_block format rec_len offset begun block some = grind (arith, walk)

pub ends_of : (format : Format) (rec_len offset : ℕ) (begun : Bool) (block : List ℕ)
    → offset ≤ length block → (w : Walked format rec_len begun (drop offset block))
    → Ends format rec_len offset begun block w.parts w.end w.rest
ends_of format rec_len offset begun block reaches w = grind arith
