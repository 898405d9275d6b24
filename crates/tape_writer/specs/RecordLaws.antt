-- Laws about records, in terms of the input's format.
use Rattle.std.specs.Prelude.{[], length, ℕ, ◌++◌, ◌∷◌, ◌≡◌, ◌≢◌, List, ◌<◌}
use Rattle.std.specs.{List.AllByRecursion, List.flat_map}
use Rattle.tape_writer.specs.{declared.inputs.cut.Cut.TheVariants.Length}
use Rattle.tape_writer.specs.{declared.inputs.cut.Cut.TheVariants.Lines}
use Rattle.tape_writer.specs.{declared.inputs.cut.Cut.TheVariants.Whole, Records.last_record}
use Rattle.tape_writer.specs.{Records.records_of}

-- no byte is a line feed
abbrev pub IsLine : List ℕ → Type 0
IsLine l = AllByRecursion (λ b. b ≢ 10) l

-- a line, followed by its line feed
abbrev pub ended_line : List ℕ → List ℕ
ended_line line = line ++ 10 ∷ []

-- Lines, each with its line feed, followed by a rest without a line feed, are cut into these lines
-- and the rest, if it is not empty.
abbrev pub LinesAreCut : Type 0
LinesAreCut = (lines : List (List ℕ)) (rest : List ℕ) → AllByRecursion IsLine lines → IsLine rest
    → records_of Lines (flat_map ended_line lines ++ rest) ≡ lines ++ last_record Lines rest

-- Pieces of one length, followed by a shorter rest, are cut into these pieces and the rest, if it
-- is not empty.
abbrev pub PiecesAreCut : Type 0
PiecesAreCut = (n : ℕ) (pieces : List (List ℕ)) (rest : List ℕ) → 0 < n
    → AllByRecursion (λ p. length p ≡ n) pieces → length rest < n
    → records_of (Length n) (flat_map (λ p. p) pieces ++ rest)
    ≡ pieces ++ last_record (Length n) rest

-- A whole input is one record.
abbrev pub WholeIsOne : Type 0
WholeIsOne = (bytes : List ℕ) → records_of Whole bytes ≡ bytes ∷ []
