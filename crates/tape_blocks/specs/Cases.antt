-- Test cases for the definitions of packing and for the laws. They are the contract of the function
-- `laws::cases`.
use Rattle.std.specs.Prelude.{◌≡◌, ◌≢◌, ◌≤◌, ◌<◌, ◌+◌, ℕ, Bool, true, false, List, [], ◌∷◌, ◌++◌}
use Rattle.std.specs.Prelude.{length, drop, replicate, Option, is_some, Ok}
use Rattle.tape_label.specs.declared.values.Format.{Format}
use Rattle.tape_label.specs.declared.values.Format.TheVariants.{Spanned}
use Rattle.tape_blocks.specs.Packing.{Packing, Offers, Ends, IsRefused, HasRecordLength, IsFull}
use Rattle.tape_blocks.specs.Laws.{HoldsOneList, PassesForOne, JoinsOn, BegunIsRest, ReadyIsFull}
use Rattle.tape_blocks.specs.{declared.parts.Shape.Shape, declared.offer.Offer.Offer, Judged.judged}
use Rattle.tape_blocks.specs.declared.parts.Span.TheVariants.{Whole, First, Last}
use Rattle.tape_blocks.specs.{declared.offer.Offer.TheVariants.BlockReady, Records.AreRecordsOf}
use Rattle.tape_blocks.specs.{Block.Portion, Block.Holds, Laws.PackedBlocksHold, Laws.HoldRecords}
use Rattle.tape_blocks.specs.Spans.{InOrder, join, join_after, joined_with}
use Rattle.tape_blocks.specs.Packing.{size_of, least_room, written, Given}
use Rattle.tape_blocks.specs.Tight.{Filled, IsSegment, IsWritten, IsTight, Packs, first_len}

-- a packer's offers, and the records that it refuses
pub record CasesOfOffers : Type 0 where
  -- a block that is closed and not taken accepts nothing, whatever is offered
  pub closed_is_ready : (old new : Packing) (rest : List ℕ) (answer : Offer) → old.closed ≡ true
      → Offers old rest answer new → (answer ≡ BlockReady 0) × (new ≡ old)
  -- nothing is checked before such a block is taken
  pub refused_when_open : (p : Packing) (rest : List ℕ) → IsRefused p rest → p.closed ≡ false
  -- after the rest of a record was accepted, the block is within the block length
  pub ends_within : (old new : Packing) (rest : List ℕ) → Ends old rest new
      → size_of new.shape new.parts ≤ new.shape.block_len
  -- a block that is taken has at least one byte, and is within the block length
  pub given_within : (p : Packing) (text : List ℕ) → Given p text
      → (0 < length text) × (length text ≤ p.shape.block_len)
  -- a record has one of the lengths of the shape if the list of only this record does
  pub record_of : (shape : Shape) (r : List ℕ) → AreRecordsOf shape (r ∷ [])
      → HasRecordLength shape.format shape.rec_len (length r)

-- blocks without unused space
pub record CasesOfBlocks : Type 0 where
  -- a segment does not begin if 5 of 18 bytes are free, and may begin if 6 are free
  pub five_free : IsSegment 18 13 (record { span = Whole; bytes = [] }) → ⊥
  pub six_free : IsSegment 18 12 (record { span = Whole; bytes = 65 ∷ [] })
  -- a first segment of 13 bytes does not fill a block of 18 bytes
  pub not_filled : IsSegment 18 0 (record { span = First; bytes = replicate 8 65 }) → ⊥
  -- a last segment is not empty
  pub empty_last : IsSegment 18 0 (record { span = Last; bytes = [] }) → ⊥
  -- a block is not full for a part that fits exactly, but is full for a part with one byte more
  pub fits_exactly : (shape : Shape) (parts : List Portion) (n : ℕ)
      → size_of shape parts + least_room shape.format n ≡ shape.block_len
      → IsFull shape parts n → ⊥
  pub one_byte_more : (shape : Shape) (parts : List Portion) (n : ℕ)
      → size_of shape parts + least_room shape.format n ≡ shape.block_len + 1
      → IsFull shape parts n
  -- a written block has exactly one text, which is within the block length
  pub text_of_block : (shape : Shape) (b : Filled) → IsWritten shape b
      → (b.bytes ≡ written shape b.parts) × (length b.bytes ≤ shape.block_len)
  -- the first of two blocks had no room for the first part of the second
  pub closed_when_full : (shape : Shape) (records : List (List ℕ)) (a b : Filled)
      → IsTight shape records (a ∷ b ∷ []) → IsFull shape a.parts (first_len b.parts 0)

-- the conclusions that a caller can draw from each law
pub record CasesOfLaws : Type 0 where
  pub one_list : (block : List ℕ) → HoldsOneList block
      → (format : Format) (rec_len offset : ℕ) (ps qs : List Portion)
      → Holds format rec_len offset block ps → Holds format rec_len offset block qs → ps ≡ qs
  pub one_begun : (block : List ℕ) → PassesForOne block
      → (rec_len offset : ℕ) (parts : List Portion) (d e : Bool)
      → Holds Spanned rec_len offset block parts → parts ≢ []
      → judged Spanned rec_len offset true block ≡ Ok d
      → judged Spanned rec_len offset false block ≡ Ok e → true ≡ false
  pub joins_on : JoinsOn → (ps qs : List Portion) → join (ps ++ qs) ≡ joined_with (join ps) qs
  pub begun_is_rest : BegunIsRest
      → (begun : Option (List ℕ)) (parts : List Portion) (end : Bool)
      → InOrder (is_some begun) parts end → is_some (join_after begun parts).rest ≡ end
  pub ready_is_full : ReadyIsFull → (old new : Packing) (rest : List ℕ) (n : ℕ) → old.closed ≡ false
      → Offers old rest (BlockReady n) new → IsFull new.shape new.parts (length (drop n rest))
  pub packed_hold : PackedBlocksHold → (shape : Shape) (records texts : List (List ℕ))
      → Packs shape records texts → HoldRecords shape texts records
