-- The found files that `unpack` is to recover.
use Rattle.std.specs.Prelude.{◌≡◌, ◌≢◌, ◌⊎◌, ℕ, List, [], ◌∷◌, ◌++◌, length, decimal, Option}
use Rattle.std.specs.{Prelude.IfSome, List.Any}
use Rattle.tape_run.specs.{declared.unpack.SetFile.SetFile, SurveyLine.trimmed_text}
use Rattle.tape_run.specs.declared.unpack.choice.FileChoice.{FileChoice}

-- the piece of a word that a character of a pattern represents: any piece for `*` (42), otherwise
-- the character itself
abbrev pub Represents : ℕ → List ℕ → Type 0
Represents p piece = p ≢ 42 → piece ≡ p ∷ []

-- The word consists of pieces that the characters of the pattern represent, in their order.
abbrev pub Fits : List ℕ → List ℕ → Type 0
Fits [] word = word ≡ []
Fits (p ∷ ps) word = (piece rest : List ℕ) × (word ≡ piece ++ rest) × Represents p piece
    × Fits ps rest

-- A word of the user means this file: it is the file's number in decimals, or a pattern that fits
-- its name, which is its identifier as `survey` prints it.
abbrev pub Means : List ℕ → SetFile → Type 0
Means word file = (word ≡ decimal file.file) ⊎ Fits word (trimmed_text file.file_id)

-- The file belongs to this set, if a set is named.
abbrev pub IsOfSet : Option (List ℕ) → SetFile → Type 0
IsOfSet set_id file = IfSome set_id (λ s. file.set_id ≡ s)

-- The file belongs to the set that was named, if one was, and one of the words means the file, if
-- there are any words.
pub record Chosen (choice : FileChoice) (file : SetFile) : Type 0 where
  pub set : IsOfSet choice.set_id file
  pub meant : (length choice.words.now ≡ 0) ⊎ Any (λ w. Means w.now file) choice.words.now
