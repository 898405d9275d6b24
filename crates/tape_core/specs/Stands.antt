-- Valid checkpoints, and the parts delivered before them.
use Rattle.std.specs.Prelude.{◌≡◌, ℕ, ◌+◌, ◌&&◌, Bool, List, [], ◌∷◌, length}
use Rattle.tape_blocks.specs.Block.{Portion}
use Rattle.tape_set.specs.declared.position.Position.{Position}
use Rattle.tape_set.specs.{Position.at_part, Layout.FileSet, Before.before}
use Rattle.tape_core.specs.{Known.may_span, Point.Point, Follows.StandsAt}

-- the weight of parts: 5 for each part and 1 for each of its bytes
abbrev pub weight_of : List Portion → ℕ
weight_of [] = 0
weight_of (p ∷ ps) = (5 + length p.bytes) + weight_of ps

-- The checkpoint belongs to the given file of the set, `parts` are the parts before its position,
-- and it records their weight.
pub record Stands (set : FileSet) (number : ℕ) (point : Point) (parts : List Portion) : Type 0 where
  pub of_set : point.set_id ≡ set.set_id
  pub of_file : point.file ≡ number
  pub there : StandsAt set number point.position point.begun point.known
  pub all : parts ≡ before set number point.position
  pub staged : point.staged ≡ weight_of parts

-- the checkpoint of the file inside the block expected at p, after `part` of its parts
abbrev pub inside_block : Point → Position → ℕ → Bool → ℕ → Point
inside_block point p part begun staged =
    record point {
      position = at_part part p;
      begun = begun && may_span point.known;
      staged = staged;
    }
