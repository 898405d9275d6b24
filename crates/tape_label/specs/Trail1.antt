-- The first trailer label.
use Rattle.std.specs.Prelude.{ℕ, ◌≤◌, List}
use Rattle.tape_label.specs.{declared.values.Trail1.Trail1, Head1.HasHead, Head1.HeadFits}
use Rattle.tape_label.specs.{Kinds.HasKind, Kinds.trailer, Positions.HasNumber}

-- the label is a first trailer label with the given fields: `EOF1` at the end of the file, `EOV1`
-- if the file continues on another volume
pub record IsTrail1 (label : List ℕ) (fields : Trail1) : Type 0 where
  pub kind : HasKind label (trailer fields.eof)
  pub head : HasHead label fields.head
  pub blocks : HasNumber label 55 60 0 fields.blocks

-- The numbers fit their digits.
pub record TrailFits (fields : Trail1) : Type 0 where
  pub head : HeadFits fields.head
  pub blocks : fields.blocks ≤ 999999
