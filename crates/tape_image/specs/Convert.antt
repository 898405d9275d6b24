-- What is written when the bytes of an image are copied.
use Rattle.std.specs.Prelude.{List, ℕ, Option, Some, None, ⊤}
use Rattle.std.specs.Io.KnownBytes.{Appends}
use Rattle.tape_image.specs.Written.{AppendsFront}

-- all bytes were appended, if it is known which those are
abbrev pub CopiesAll : Option (List ℕ) → Option (List ℕ) → Option (List ℕ) → Type 0
CopiesAll None old new = ⊤
CopiesAll (Some all) old new = Appends old new all

-- a front of the bytes was appended
abbrev pub CopiesFront : Option (List ℕ) → Option (List ℕ) → Option (List ℕ) → Type 0
CopiesFront None old new = ⊤
CopiesFront (Some all) old new = AppendsFront old new all
