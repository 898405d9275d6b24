-- Laws about blocks and parts. Each is the contract of a function of the module `laws`.
use Rattle.std.specs.Prelude.{◌≡◌, ◌≢◌, ◌≤◌, ℕ, Bool, List, [], ◌++◌, Option, None, false, is_some}
use Rattle.std.specs.Prelude.{Ok, Err, IfErr, length, drop}
use Rattle.std.specs.List.{AllByRecursion}
use Rattle.tape_label.specs.declared.values.Format.{Format}
use Rattle.tape_label.specs.declared.values.Format.TheVariants.{Fixed, Spanned}
use Rattle.tape_blocks.specs.{Block.Portion, Block.Holds, declared.parts.Shape.Shape, Judged.judged}
use Rattle.tape_blocks.specs.{declared.check.BlockFault.BlockFault, Faults.HasFault, Checked.Passes}
use Rattle.tape_blocks.specs.declared.offer.Offer.TheVariants.{BlockReady}
use Rattle.tape_blocks.specs.Packing.{Packing, Offers, IsFull}
use Rattle.tape_blocks.specs.Spans.{InOrder, join, join_after, joined_with}
use Rattle.tape_blocks.specs.Tight.{Filled, bytes_of_all, parts_of_all, Packs}

-- A block contains at most one list of parts.
abbrev pub HoldsOneList : List ℕ → Type 0
HoldsOneList block = (format : Format) (rec_len offset : ℕ) (ps qs : List Portion)
    → Holds format rec_len offset block ps → Holds format rec_len offset block qs → ps ≡ qs

-- A block has no more parts than bytes, and no part is longer than the block.
abbrev pub PartsFit : List ℕ → Type 0
PartsFit block = (format : Format) (rec_len offset : ℕ) (parts : List Portion)
    → (format ≡ Fixed → 1 ≤ rec_len) → Holds format rec_len offset block parts
    → (length parts ≤ length block) × AllByRecursion (λ p. length p.bytes ≤ length block) parts

-- A block of format S that contains a part passes either after an unfinished record or otherwise,
-- not in both cases.
abbrev pub PassesForOne : List ℕ → Type 0
PassesForOne block = (rec_len offset : ℕ) (parts : List Portion) (b c d e : Bool)
    → Holds Spanned rec_len offset block parts → parts ≢ []
    → judged Spanned rec_len offset b block ≡ Ok d
    → judged Spanned rec_len offset c block ≡ Ok e → b ≡ c

-- The result of a check follows from the block's contents: the block passes if and only if it
-- contains parts in span order, and otherwise is refused with its fault. So a block has at most one
-- fault, and no fault if it passes.
abbrev pub JudgedAsHeld : Format → ℕ → ℕ → Bool → List ℕ → Type 0
JudgedAsHeld format rec_len offset begun block =
    ((end : Bool) → judged format rec_len offset begun block ≡ Ok end
    → Passes format rec_len offset begun block end)
    × ((end : Bool) (parts : List Portion)
    → Holds format rec_len offset block parts → InOrder begun parts end
    → judged format rec_len offset begun block ≡ Ok end)
    × IfErr (judged format rec_len offset begun block) (HasFault format rec_len offset begun block)
    × ((f : BlockFault) → HasFault format rec_len offset begun block f
    → judged format rec_len offset begun block ≡ Err f)

-- Joining a list of parts followed by another gives the finished records of the first list, and
-- then the records that the second list adds after the first list's unfinished record.
abbrev pub JoinsOn : Type 0
JoinsOn = (ps qs : List Portion) → join (ps ++ qs) ≡ joined_with (join ps) qs

-- Parts in span order end with a record unfinished if and only if joining them leaves a rest.
abbrev pub BegunIsRest : Type 0
BegunIsRest = (begun : Option (List ℕ)) (parts : List Portion) (end : Bool)
    → InOrder (is_some begun) parts end → is_some (join_after begun parts).rest ≡ end

-- A block that becomes ready has no room for the rest of the record.
abbrev pub ReadyIsFull : Type 0
ReadyIsFull = (old new : Packing) (rest : List ℕ) (n : ℕ) → old.closed ≡ false
    → Offers old rest (BlockReady n) new → IsFull new.shape new.parts (length (drop n rest))

-- Each block contains its parts.
abbrev pub AllHold : Shape → List Filled → Type 0
AllHold shape blocks =
    AllByRecursion (λ b. Holds shape.format shape.rec_len shape.offset b.bytes b.parts) blocks

-- Blocks with the given texts contain parts that are in span order and join to the given records.
abbrev pub HoldRecords : Shape → List (List ℕ) → List (List ℕ) → Type 0
HoldRecords shape texts records =
    (blocks : List Filled) × (bytes_of_all blocks ≡ texts) × AllHold shape blocks
    × InOrder false (parts_of_all blocks) false
    × (join (parts_of_all blocks) ≡ record { records = records; rest = None })

-- Blocks into which records are packed contain those records.
abbrev pub PackedBlocksHold : Type 0
PackedBlocksHold = (shape : Shape) (records texts : List (List ℕ)) → Packs shape records texts
    → HoldRecords shape texts records
