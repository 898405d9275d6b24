-- The records recovered of a file with missing blocks: exactly those that lie entirely in blocks
-- that were read.
use Rattle.std.specs.Prelude.{◌≡◌, ◌≢◌, ℕ, ◌+◌, ◌&&◌, Bool, true, false, List, [], ◌∷◌, ◌++◌, Some}
use Rattle.std.specs.{Prelude.if◌then◌else◌, List.AllByRecursion}
use Rattle.tape_blocks.specs.{Block.Portion, Block.Holds, Spans.leaves, Spans.InOrder, Tight.Filled}
use Rattle.tape_set.specs.Lawful.{FileForm}
use Rattle.tape_run.specs.SalvageRecords.{Piece, nothing, mended, torn}

-- the blocks of a file, each with whether it was read
abbrev pub Blocks : Type 0
Blocks = List (Bool × Filled)

-- their parts, each with whether its block was read
abbrev pub parts_of_block : Bool → List Portion → List (Bool × Portion)
parts_of_block there [] = []
parts_of_block there (x ∷ xs) = (there, x) ∷ parts_of_block there xs

abbrev pub parts_with : Blocks → List (Bool × Portion)
parts_with [] = []
parts_with (b ∷ bs) = parts_of_block b.0 b.1.parts ++ parts_with bs

abbrev pub all_parts : Blocks → List Portion
all_parts [] = []
all_parts (b ∷ bs) = b.1.parts ++ all_parts bs

-- the number of blocks that were not read
abbrev pub not_read : Blocks → ℕ
not_read [] = 0
not_read ((true, f) ∷ bs) = not_read bs
not_read ((false, f) ∷ bs) = not_read bs + 1

-- The parts of the records that end here and were all read. `front` contains the parts of the
-- unfinished record so far, and `all` says whether they were all read.
abbrev pub whole_from : List Portion → Bool → List (Bool × Portion) → List Portion
whole_from front all [] = []
whole_from front all (x ∷ xs) =
    if leaves x.1.span then whole_from (front ++ x.1 ∷ []) (all && x.0) xs
    else (if all && x.0 then front ++ x.1 ∷ [] else []) ++ whole_from [] true xs

abbrev pub whole_parts : List (Bool × Portion) → List Portion
whole_parts xs = whole_from [] true xs

-- the records after these blocks, one after another
abbrev pub piece_after : FileForm → Piece → Blocks → Piece
piece_after form p [] = p
piece_after form p (b ∷ bs) =
    piece_after form (if b.0 then mended (Some form) p b.1.bytes else torn p) bs

-- The block contains its parts in this form, and a block that was not read has at least one part.
pub record IsBlock (form : FileForm) (b : Bool × Filled) : Type 0 where
  pub holds : Holds form.format form.rec_len form.offset b.1.bytes b.1.parts
  pub some : b.0 ≡ false → b.1.parts ≢ []

-- If the parts of a file are in order, the recovered parts are exactly those of the records that
-- lie entirely in blocks that were read.
abbrev pub RecoversWhole : Type 0
RecoversWhole = (form : FileForm) (bs : Blocks) (end : Bool) → AllByRecursion (IsBlock form) bs
    → InOrder false (all_parts bs) end
    → (piece_after form nothing bs).done ≡ whole_parts (parts_with bs)

-- if all blocks were read, and no record is unfinished after them, these are all parts
abbrev pub AllWhole : Type 0
AllWhole = (bs : Blocks) → AllByRecursion (λ b. b.0 ≡ true) bs → InOrder false (all_parts bs) false
    → whole_parts (parts_with bs) ≡ all_parts bs

-- Recovered records remain a prefix of the result, whatever follows.
abbrev pub FirstStays : Type 0
FirstStays = (form : FileForm) (p : Piece) (bs : Blocks)
    → (more : List Portion) × ((piece_after form p bs).done ≡ p.done ++ more)

-- Up to the first missing block nothing is left out: the complete records and the unfinished one
-- together are all parts so far.
abbrev pub NeverLess : Type 0
NeverLess = (form : FileForm) (bs more : Blocks) (end : Bool)
    → AllByRecursion (IsBlock form) bs → AllByRecursion (λ b. b.0 ≡ true) bs
    → InOrder false (all_parts bs) end → let p = piece_after form nothing bs in
    (p.done ++ p.front ≡ all_parts bs)
    × ((rest : List Portion) × ((piece_after form nothing (bs ++ more)).done ≡ p.done ++ rest))
