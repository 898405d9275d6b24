-- The 127 bytes after a gate: a generation, a checkpoint and spaces.
use Rattle.std.specs.Prelude.{ℕ, ◌^◌, ◌<◌, List, ◌++◌, take, drop, replicate, Option, Some, None}
use Rattle.std.specs.{Prelude.if◌then◌else◌, Str.all_ascii_digits}
use Rattle.tape_label.specs.{Digits.digits, Digits.number_of, Written.text_of}
use Rattle.tape_core.specs.Point.{Point}
use Rattle.tape_stage.specs.{declared.point.Version.TheVariants.Two, Fields.fields_of}
use Rattle.tape_stage.specs.{Reading.point_in, Text.IsPointText, Text.pieces}

-- the greatest generation
abbrev pub most_generation : ℕ
most_generation = 999999999999999

-- a generation and its checkpoint
abbrev pub Slot : Type 0
Slot = ℕ × Point

-- the text of a checkpoint in version 2
abbrev pub point_text : Point → List ℕ
point_text c = text_of (pieces Two (fields_of c))

-- the bytes written after a gate: a generation of 15 digits, the text of its checkpoint, and 32
-- spaces
unfoldable pub body_text : ℕ → Point → List ℕ
body_text g point = digits 15 g ++ (point_text point ++ replicate 32 32)

-- the given generation and its checkpoint, if there is one
abbrev pub with_generation : ℕ → Option Point → Option Slot
with_generation g None = None
with_generation g (Some point) = Some (g, point)

-- the contents of a body, if its generation consists of digits and its text is that of a
-- checkpoint; the rest is ignored
unfoldable pub body_of : List ℕ → Option Slot
body_of body = if all_ascii_digits (take 15 body) then with_generation (number_of (take 15 body))
    (point_in (take 80 (drop 15 body))) else None

-- the generation has at most 15 digits, and the checkpoint has a text
pub record FitBody (g : ℕ) (point : Point) : Type 0 where
  pub generation : g < 10 ^ 15
  pub text : IsPointText Two (point_text point) point
