-- The parts of a block, processed one after another.
use Rattle.std.proofs.Common.{◌≡◌, Bool, true, false, List, [], ◌∷◌, ◌++◌, refl, sym, ap, ◌∙◌}
use Rattle.std.proofs.Common.{if◌then◌else◌, append-nil, append_assoc, not, ℕ, zero, suc, ◌≤◌}
use Rattle.std.proofs.Common.{length, take, arith, Option, Some, None, Result, Ok, Err, is_some}
use Rattle.tape_label.specs.declared.values.Format.{Format}
use Rattle.tape_blocks.specs.Content.{content_in, units_end}
use mathlib.Core.Bool.{beq}
use Rattle.tape_blocks.specs.{Block.Portion, Spans.continues, Spans.leaves}
use Rattle.tape_blocks.specs.{Judged.in_order, Faults.bool_eq}
use Rattle.tape_blocks.specs.declared.check.BlockFault.{BlockFault}
use Rattle.tape_set.specs.Lawful.{FileForm}
use Rattle.tape_run.specs.SalvageRecords.{Piece, with_part, with_parts, mended, mended_by, torn}
use Rattle.tape_run.specs.SalvageRecords.{taken, taken_by, found_fault, fault_by, content_for}
use Rattle.tape_run.specs.SalvageRecords.{judged_at}

-- one more part after others
pub with_one_more : (p : Piece) (xs : List Portion) (x : Portion)
    → with_parts p (xs ++ x ∷ []) ≡ with_part (with_parts p xs) x
with_one_more p [] x = refl
with_one_more p (y ∷ ys) x = with_one_more (with_part p y) ys x

-- ---- the first parts that are in order

abbrev in_order_by : Bool → Portion → List Portion → List Portion
in_order_by b x rest = if b then x ∷ in_order (leaves x.span) rest else []

-- these parts are in order, and the next one is not
pub stops_there : (begun going : Bool) (ys : List Portion) (x : Portion) (rest : List Portion)
    → ((zs : List Portion) → in_order begun (ys ++ zs) ≡ ys ++ in_order going zs)
    → bool_eq (continues x.span) going ≡ false → in_order begun (ys ++ x ∷ rest) ≡ ys
stops_there begun going ys x rest all off =
    all (x ∷ rest) ∙ ap (λ (b : Bool). ys ++ in_order_by b x rest) off ∙ append-nil ys

-- and the next one is too
pub goes_further : (begun going : Bool) (ys : List Portion) (x : Portion) (zs : List Portion)
    → ((zs : List Portion) → in_order begun (ys ++ zs) ≡ ys ++ in_order going zs)
    → bool_eq (continues x.span) going ≡ true
    → in_order begun ((ys ++ x ∷ []) ++ zs) ≡ (ys ++ x ∷ []) ++ in_order (leaves x.span) zs
goes_further begun going ys x zs all on =
    ap (in_order begun) (append_assoc ys (x ∷ []) zs) ∙ all (x ∷ zs)
    ∙ ap (λ (b : Bool). ys ++ in_order_by b x zs) on
    ∙ sym (append_assoc ys (x ∷ []) (in_order (leaves x.span) zs))

-- the test of the code, and that of the definition
pub not_equal : (a b c : Bool) → a ≡ c → not (beq a b) ≡ true → bool_eq c b ≡ false
not_equal true true c same e = absurd (cc e)
not_equal true false c same e = rw (sym same) refl
not_equal false true c same e = rw (sym same) refl
not_equal false false c same e = absurd (cc e)

pub are_equal : (a b c : Bool) → a ≡ c → not (beq a b) ≡ false → bool_eq c b ≡ true
are_equal true true c same e = rw (sym same) refl
are_equal true false c same e = absurd (cc e)
are_equal false true c same e = absurd (cc e)
are_equal false false c same e = rw (sym same) refl

-- ---- padding

take_short : (n : ℕ) (xs : List ℕ) → length (take n xs) ≤ length xs
take_short zero xs = omega arith
take_short (suc n) [] = omega arith
take_short (suc n) (x ∷ xs) = let h = take_short n xs in omega (arith, h)

short_if : (b : Bool) (n : ℕ) (xs : List ℕ) → length (if b then take n xs else xs) ≤ length xs
short_if true n xs = take_short n xs
short_if false n xs = omega arith

-- the content of a block is not longer than the block
pub content_short : (format : Format) (rec_len offset : ℕ) (block : List ℕ)
    → length (content_in format rec_len offset block) ≤ length block
content_short format rec_len offset block =
    short_if _ (units_end format rec_len offset block) block

-- ---- a block with a fault

torn_by : (form : FileForm) (p : Piece) (b : List ℕ) (r : Result Bool BlockFault)
    → mended_by form p b r ≡ (if is_some (fault_by form b r) then torn (taken_by form p b r)
    else taken_by form p b r)
torn_by form p b (Ok end) = refl
torn_by form p b (Err fault) = refl

-- something is missing after a block exactly if it has a fault
pub torn_if : (form : Option FileForm) (p : Piece) (b : List ℕ)
    → mended form p b ≡ (if is_some (found_fault form p b) then torn (taken form p b)
    else taken form p b)
torn_if None p b = refl
torn_if (Some form) p b =
    let c = content_for form b in torn_by form p c (judged_at form p c)
