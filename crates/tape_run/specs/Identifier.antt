-- Identifiers as they are printed.
use Rattle.std.specs.Prelude.{ℕ, ◌&&◌, nat_le, if◌then◌else◌, List, map}

-- a byte of an identifier: a question mark represents one outside the printable range
abbrev pub printed : ℕ → ℕ
printed byte = if nat_le 32 byte && nat_le byte 126 then byte else 63

-- an identifier in its full width
abbrev pub identifier_text : List ℕ → List ℕ
identifier_text bytes = map printed bytes
