-- The volume label.
use Rattle.std.specs.Prelude.{◌≡◌, ℕ, List, [], ◌∷◌}
use Rattle.tape_label.specs.declared.values.Kind.TheVariants as kinds
use Rattle.tape_label.specs.{declared.values.Vol1.Vol1, Kinds.HasKind, Positions.positions}

-- the label is a volume label with the given fields; positions 12 to 24 and 52 to 79 are reserved
-- and may contain anything
pub record IsVol1 (label : List ℕ) (fields : Vol1) : Type 0 where
  pub kind : HasKind label kinds.Vol1
  pub volume : positions label 5 10 ≡ fields.volume
  pub access : positions label 11 11 ≡ fields.access ∷ []
  pub implementation : positions label 25 37 ≡ fields.implementation
  pub owner : positions label 38 51 ≡ fields.owner
  pub version : positions label 80 80 ≡ fields.version ∷ []
