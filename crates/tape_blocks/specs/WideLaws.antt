-- Laws about blocks of formats U and V, and about padding of NULs or spaces. Each is the contract
-- of a function of the module `laws`.
use Rattle.std.specs.Prelude.{◌≡◌, ◌<◌, ◌≤◌, ℕ, ◌+◌, ◌/◌, ◌%◌, Bool, List, [], ◌∷◌, length, drop}
use Rattle.std.specs.Prelude.{Ok}
use Rattle.std.specs.List.{AllByRecursion}
use Rattle.tape_label.specs.declared.values.Format.{Format}
use Rattle.tape_label.specs.declared.values.Format.TheVariants.{Fixed, Undefined, Variable}
use Rattle.tape_blocks.specs.{Block.Portion, Block.Holds, Block.IsUnit, Block.spellings}
use Rattle.tape_blocks.specs.{Content.content_in, Judged.judged}
use Rattle.tape_blocks.specs.declared.parts.Span.TheVariants.{Whole}

-- A block of format U that is longer than its offset contains one record: all its other bytes.
abbrev pub UndefinedIsOne : Type 0
UndefinedIsOne = (rec_len offset : ℕ) (block : List ℕ) → offset < length block
    → Holds Undefined rec_len offset block (record { span = Whole; bytes = drop offset block } ∷ [])

-- A block of format U of the offset alone contains no record.
abbrev pub UndefinedIsNone : Type 0
UndefinedIsNone = (rec_len offset : ℕ) (block : List ℕ) → offset ≡ length block
    → Holds Undefined rec_len offset block []

-- a block of format V with the given parts: the block descriptor word, and their units
abbrev pub described_block : List Portion → List ℕ
described_block parts =
    let n = 4 + length (spellings Variable parts)
    in n / 256 ∷ n % 256 ∷ 0 ∷ 0 ∷ spellings Variable parts

-- Such a block contains its parts, if its length fits in the 15 bits of the word.
abbrev pub DescribedHolds : Type 0
DescribedHolds = (rec_len : ℕ) (parts : List Portion)
    → AllByRecursion (IsUnit Variable rec_len) parts
    → 4 + length (spellings Variable parts) < 32768
    → Holds Variable rec_len 0 (described_block parts) parts

-- A block that passes the check has no padding of NULs or spaces.
abbrev pub ContentIsKept : Type 0
ContentIsKept = (format : Format) (rec_len offset : ℕ) (begun end : Bool) (block : List ℕ)
    → (format ≡ Fixed → 1 ≤ rec_len) → judged format rec_len offset begun block ≡ Ok end
    → content_in format rec_len offset block ≡ block
