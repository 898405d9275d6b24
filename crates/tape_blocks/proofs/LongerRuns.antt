-- A run of a packer with one more part.
use Rattle.std.proofs.Common.{◌≡◌, ℕ, ◌+◌, ◌<◌, ◌≤◌, Bool, true, false, List, [], ◌∷◌, ◌++◌, length}
use Rattle.std.proofs.Common.{Option, None, refl, sym, ap, subst, ◌∙◌, append_assoc, arith}
use Rattle.tape_label.specs.declared.values.Format.{Format}
use Rattle.tape_label.specs.declared.values.Format.TheVariants.{Spanned}
use Rattle.tape_blocks.specs.Spans.{InOrder, span_of, content_after, join}
use Rattle.tape_blocks.specs.Packing.{Packing, size_of, least_room, with_part, Ends}
use Rattle.tape_blocks.specs.{declared.parts.Span.TheVariants.Whole, Block.Portion, Run.AreClosed}
use Rattle.tape_blocks.specs.{Run.Run, Tight.Filled, Tight.AreSegments, Tight.parts_of_all}
use Rattle.tape_blocks.proofs.JoinLaws.{join_ends, leaves_of, continues_of}
use Rattle.tape_blocks.proofs.FrontLaws.{InOrder-append}
use Rattle.tape_blocks.proofs.TightLaws.{first_push, segments_push}

-- ---- one more part

pub record Part (p : Packing) (goes_on : Bool) (bytes : List ℕ) : Type 0 where
  pub room : p.shape.format ≡ Spanned → size_of p.shape p.parts + 6 ≤ p.shape.block_len
  pub fills : p.shape.format ≡ Spanned → goes_on ≡ true
      → size_of p.shape p.parts + (5 + length bytes) ≡ p.shape.block_len
  pub empty : bytes ≡ [] → span_of p.begun goes_on ≡ Whole

pub segments_part : (p : Packing) (goes_on : Bool) (bytes : List ℕ) → Part p goes_on bytes
    → (p.shape.format ≡ Spanned → AreSegments p.shape.block_len p.shape.offset p.parts)
    → p.shape.format ≡ Spanned
    → AreSegments p.shape.block_len p.shape.offset (with_part p goes_on bytes).parts
segments_part p goes_on bytes part all e = grind (arith, segments_push, leaves_of)

pub order_part : (begun goes_on : Bool) (ps : List Portion) (bytes : List ℕ)
    → InOrder false ps begun
    → InOrder false (ps ++ record { span = span_of begun goes_on; bytes = bytes } ∷ []) goes_on
order_part begun goes_on ps bytes order = grind (arith, InOrder-append, continues_of, leaves_of)

empty_part : (begun : Bool) (bytes : List ℕ) → (begun ≡ true → 0 < length bytes) → bytes ≡ []
    → span_of begun false ≡ Whole
empty_part true bytes more none = grind arith
empty_part false bytes more none = refl

pub spanned_room : (format : Format) (n size block_len : ℕ) → size + least_room format n ≤ block_len
    → format ≡ Spanned → size + 6 ≤ block_len
spanned_room format n size block_len le e = grind arith

-- The record ends in the current block.
pub run_ends : (taken : List Filled) (p q : Packing) (records : List (List ℕ))
    (front : Option (List ℕ)) (rest : List ℕ) (n : ℕ) → Run taken p records front (length rest)
    → Ends p rest q → Run taken q (records ++ content_after front rest ∷ []) None n
run_ends taken p q records front rest n run ends =
    let x : Portion = record { span = span_of p.begun false; bytes = rest } in
    let part : Part p false rest = record {
      room = spanned_room p.shape.format (length rest)
          (size_of p.shape p.parts) p.shape.block_len ends.room;
      fills = λ e goes. absurd cc;
      empty = empty_part p.begun rest run.more;
    } in
    subst (λ (v : Packing). Run taken v (records ++ content_after front rest ∷ []) None n)
    (sym ends.part) record {
      closed =
          subst (λ (k : ℕ). AreClosed p.shape taken k) (sym (first_push p.parts x n)) run.closed;
      each = run.each;
      segments = segments_part p false rest part run.segments;
      joins = ap join (sym (append_assoc (parts_of_all taken) p.parts (x ∷ []))) ∙ join_ends
          (parts_of_all taken ++ p.parts) x records front run.joins (leaves_of p.begun false);
      order = subst (λ (ps : List Portion). InOrder false ps false)
          (append_assoc (parts_of_all taken) p.parts (x ∷ []))
          (order_part p.begun false (parts_of_all taken ++ p.parts) rest run.order);
      opened = refl;
      more = λ e. absurd cc;
      ended = λ e. refl;
    }
