-- Each offer preserves the invariant of a caller's loop.
use Rattle.std.proofs.Common.{◌≡◌, ◌≢◌, ℕ, zero, ◌+◌, ◌<◌, true, false, List, [], ◌∷◌, ◌++◌, length}
use Rattle.std.proofs.Common.{take, drop, Option, Some, None, sym, ap, subst, ◌∙◌, append_assoc}
use Rattle.std.proofs.Common.{arith, inl, inr}
use Rattle.std.proofs.lemmas.List.{length-take, length-drop, append-nil, take-append-drop}
use Rattle.std.specs.List.{AllByRecursion}
use Rattle.tape_label.specs.declared.values.Format.{Format}
use Rattle.tape_label.specs.declared.values.Format.TheVariants.{Spanned}
use Rattle.tape_blocks.specs.Packing.{Packing, Given, IsJudged, HasRecordLength, IsFull, size_of}
use Rattle.tape_blocks.specs.Tight.{Filled, IsWritten, AreSegments, first_len, parts_of_all}
use Rattle.tape_blocks.specs.{declared.parts.Span.TheVariants.Whole, Tight.IsTight}
use Rattle.tape_blocks.specs.declared.offer.Offer.TheVariants.{Taken, BlockReady}
use Rattle.tape_blocks.specs.Spans.{InOrder, span_of, content_after, join}
use Rattle.tape_blocks.specs.Packing.{least_room, emptied, Fills, Closes, Offers}
use Rattle.tape_blocks.specs.{declared.parts.Shape.Shape, declared.offer.Offer.Offer}
use Rattle.tape_blocks.specs.{Block.Portion, Block.head_len, Run.AreClosed, Run.Run, Run.Going}
use Rattle.tape_blocks.proofs.TightLaws.{first_push, first_some, closed_more, chain_of, chain_more}
use Rattle.tape_blocks.proofs.{TightLaws.each_more, TightLaws.parts_more, PackLaws.size_push}
use Rattle.tape_blocks.proofs.LongerRuns.{Part, segments_part, order_part, spanned_room, run_ends}
use Rattle.tape_blocks.proofs.JoinLaws.{join_goes_on, leaves_of}

-- ---- a block taken

abbrev pub filled_of : Packing → List ℕ → Filled
filled_of p text = record { bytes = text; parts = p.parts }

-- the parts of the blocks taken, after one more block was taken
take_parts : (taken : List Filled) (b : Filled)
    → parts_of_all (taken ++ b ∷ []) ++ [] ≡ parts_of_all taken ++ b.parts
take_parts taken b = append-nil (parts_of_all (taken ++ b ∷ [])) ∙ parts_more taken b

-- a current block that is closed, with n bytes to follow
record Full (taken : List Filled) (p : Packing) (records : List (List ℕ)) (front : Option (List ℕ))
    (n : ℕ) : Type 0 where
  closed : AreClosed p.shape taken (first_len p.parts 0)
  full : IsFull p.shape p.parts n
  each : AllByRecursion (IsWritten p.shape) taken
  segments : p.shape.format ≡ Spanned → AreSegments p.shape.block_len p.shape.offset p.parts
  joins : join (parts_of_all taken ++ p.parts) ≡ record { records = records; rest = front }
  order : InOrder false (parts_of_all taken ++ p.parts) p.begun
  more : p.begun ≡ true → 0 < n
  ended : p.begun ≡ false → front ≡ None

run_taken : (taken : List Filled) (p : Packing) (records : List (List ℕ)) (front : Option (List ℕ))
    (n : ℕ) (text : List ℕ) → Full taken p records front n → Given p text
    → Run (taken ++ filled_of p text ∷ []) (emptied p) records front n
run_taken taken p records front n text full given =
    grind (arith, closed_more, each_more, take_parts)

closes_full : (taken : List Filled) (p q : Packing) (records : List (List ℕ)) (front : Option (List
    ℕ)) (rest : List ℕ) (n : ℕ) → q.parts ≢ [] → Run taken p records front (length rest)
    → Closes p rest n q → Full taken q records front (length rest)
closes_full taken p q records front rest n some run closes = grind (arith, first_some)

full_by : (format : Format) (size block_len n : ℕ) → format ≡ Spanned → size ≡ block_len
    → block_len < size + least_room format n
full_by format size block_len n e is = grind arith

fills_full : (taken : List Filled) (p q : Packing) (records : List (List ℕ))
    (front : Option (List ℕ)) (rest : List ℕ) (n : ℕ)
    → Run taken p records front (length rest) → Fills p rest n q
    → Full taken q records (Some (content_after front (take n rest))) (length (drop n rest))
fills_full taken p q records front rest n run fills =
    let bytes = take n rest in
    let size : length bytes ≡ n = omega (arith, length-take n rest, fills.more) in
    let left : 0 < length (drop n rest) = omega (arith, length-drop n rest, fills.more) in
    let x : Portion = record { span = span_of p.begun true; bytes = bytes } in
    let filled : size_of p.shape (p.parts ++ x ∷ []) ≡ p.shape.block_len =
    subst (λ (v : Packing). size_of v.shape v.parts ≡ v.shape.block_len) fills.part fills.filled in
    let sum : p.shape.format ≡ Spanned
    → size_of p.shape p.parts + (5 + length bytes) ≡ p.shape.block_len =
    λ e. ap (λ (f : Format). size_of p.shape p.parts + (head_len f + length bytes)) (sym e)
    ∙ sym (size_push p.shape p.parts x) ∙ filled in
    let none : bytes ≡ [] → span_of p.begun true ≡ Whole =
    λ e. absurd (let zero_len = ap length e in let lt = fills.some in omega arith) in
    let part : Part p true bytes =
    record {
      room = spanned_room p.shape.format (length rest)
          (size_of p.shape p.parts) p.shape.block_len fills.room;
      fills = λ e goes. sum e;
      empty = none;
    } in
    subst (λ (v : Packing). Full taken v records (Some (content_after front bytes)) (length
    (drop n rest))) (sym fills.part) record {
      closed = subst (λ (k : ℕ). AreClosed p.shape taken k) (sym (first_push p.parts x 0))
          (run_closed p taken (length rest) (length bytes) fills.spanned run.closed);
      full = full_by p.shape.format (size_of p.shape (p.parts ++ x ∷ [])) p.shape.block_len
          (length (drop n rest)) fills.spanned filled;
      each = run.each;
      segments = segments_part p true bytes part run.segments;
      joins = ap join (sym (append_assoc (parts_of_all taken) p.parts (x ∷ []))) ∙ join_goes_on
          (parts_of_all taken ++ p.parts) x records front run.joins (leaves_of p.begun true);
      order = subst (λ (ps : List Portion). InOrder false ps true)
          (append_assoc (parts_of_all taken) p.parts (x ∷ []))
          (order_part p.begun true (parts_of_all taken ++ p.parts) bytes run.order);
      more = λ e. left;
      ended = λ e. absurd cc;
    }
  where
    -- in format S it does not matter how long the following content is
    any_full : (shape : Shape) (parts : List Portion) (n m : ℕ) → shape.format ≡ Spanned
        → IsFull shape parts n → IsFull shape parts m
    any_full shape parts n m e full = grind arith

    any_closed : (shape : Shape) (taken : List Filled) (n m : ℕ) → shape.format ≡ Spanned
        → AreClosed shape taken n → AreClosed shape taken m
    any_closed shape [] n m e closed = tt
    any_closed shape (b ∷ []) n m e closed = any_full shape b.parts n m e closed
    any_closed shape (b ∷ c ∷ bs) n m e closed =
        (closed.0, any_closed shape (c ∷ bs) n m e closed.1)

    run_closed : (p : Packing) (taken : List Filled) (n m : ℕ) → p.shape.format ≡ Spanned
        → AreClosed p.shape taken (first_len p.parts n)
        → AreClosed p.shape taken (first_len p.parts m)
    run_closed p taken n m e closed =
        any_closed p.shape taken (first_len p.parts n) (first_len p.parts m) e closed

content_more : (front : Option (List ℕ)) (n : ℕ) (rest : List ℕ) → content_after (Some
    (content_after front (take n rest))) (drop n rest) ≡ content_after front rest
content_more None n rest = take-append-drop n rest
content_more (Some s) n rest = grind (arith, append_assoc, take-append-drop)

zero_drop : (n : ℕ) (rest : List ℕ) → n ≡ zero → drop n rest ≡ rest
zero_drop n rest e = ap (λ (k : ℕ). drop k rest) e

pub offers_shape : (p q : Packing) (rest : List ℕ) (o : Offer) → Offers p rest o q
    → q.shape ≡ p.shape
offers_shape p q rest Taken offers = ap (λ (v : Packing). v.shape) offers.part
offers_shape p q rest (BlockReady n) offers = grind arith

-- A block that becomes ready has no room for the remaining bytes.
pub ready_full : (old new : Packing) (rest : List ℕ) (n : ℕ) → old.closed ≡ false
    → Offers old rest (BlockReady n) new → IsFull new.shape new.parts (length (drop n rest))
ready_full old new rest n opened offers = grind (arith, zero_drop, full_by)

-- An offer in a run is for a record with one of the lengths of the shape.
pub going_length : (taken : List Filled) (p : Packing) (records : List (List ℕ)) (r rest : List ℕ)
    → Going taken p records r rest → IsJudged p rest
    → HasRecordLength p.shape.format p.shape.rec_len (length r)
going_length taken p records r rest going judged = grind arith

-- The record ends.
pub going_ends : (taken : List Filled) (p q : Packing) (records : List (List ℕ)) (r rest : List ℕ)
    (n : ℕ) → Going taken p records r rest → Offers p rest Taken q
    → Run taken q (records ++ r ∷ []) None n
going_ends taken p q records r rest n going offers =
    subst (λ (x : List ℕ). Run taken q (records ++ x ∷ []) None n) going.content
    (run_ends taken p q records going.front rest n going.run offers)

-- The block is closed, and taken.
pub going_block : (taken : List Filled) (p q : Packing) (records : List (List ℕ))
    (r rest text : List ℕ) (n : ℕ) → Going taken p records r rest → IsJudged p rest
    → Offers p rest (BlockReady n) q → Given q text
    → Going (taken ++ filled_of q text ∷ []) (emptied q) records r (drop n rest)
going_block taken p q records r rest text n going judged offers given =
    let fits = subst (λ (s : Shape). HasRecordLength s.format s.rec_len (length r))
    (sym (offers_shape p q rest (BlockReady n) offers))
    (going_length taken p records r rest going judged) in
    elim (offers.1) [
      | inl same ↦ absurd (let a = going.run.opened in let b = same.closed in cc)
      | inr o ↦ elim o [
        | inl closes ↦ subst
            (λ (s : List ℕ). Going (taken ++ filled_of q text ∷ []) (emptied q) records r s)
            (sym (zero_drop n rest closes.none)) record {
              front = going.front;
              run = run_taken taken q records going.front (length rest) text
                  (closes_full taken p q records going.front rest n offers.0 going.run closes)
                  given;
              content = going.content;
              length_is = λ e. fits;
            }
        | inr fills ↦ record {
          front = Some (content_after going.front (take n rest));
          run = run_taken taken q records (Some (content_after going.front (take n rest)))
              (length (drop n rest)) text
              (fills_full taken p q records going.front rest n going.run fills) given;
          content = content_more going.front n rest ∙ going.content;
          length_is = λ e. fits;
        }
      ]
    ]

-- ---- the first record and the last

pub run_begins : (p : Packing) (n : ℕ) → p.parts ≡ [] → p.begun ≡ false → p.closed ≡ false
    → Run [] p [] None n
run_begins p n none begun opened = grind arith

pub run_last : (taken : List Filled) (p : Packing) (records : List (List ℕ)) (text : List ℕ) (n : ℕ)
    → Run taken p records None n → Given p text → p.begun ≡ false
    → IsTight p.shape records (taken ++ filled_of p text ∷ [])
run_last taken p records text n run given ended =
    grind (arith, chain_more, first_some, each_more, parts_more)

pub run_none : (taken : List Filled) (p : Packing) (records : List (List ℕ)) (n : ℕ)
    → Run taken p records None n → p.parts ≡ [] → p.begun ≡ false → IsTight p.shape records taken
run_none taken p records n run none ended = grind (arith, append-nil, chain_of)
