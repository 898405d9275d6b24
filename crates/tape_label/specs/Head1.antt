-- The first header label.
use Rattle.std.specs.Prelude.{◌≡◌, ℕ, ◌≤◌, List, [], ◌∷◌}
use Rattle.tape_label.specs.declared.values.Kind.TheVariants as kinds
use Rattle.tape_label.specs.{declared.values.Head1.Head1, Kinds.HasKind}
use Rattle.tape_label.specs.Positions.{positions, HasNumber}

-- The fields that a first header label and the first trailer labels share, at the same positions.
-- Positions 55 to 60 are not among them; positions 74 to 80 are reserved and may contain anything.
pub record HasHead (label : List ℕ) (fields : Head1) : Type 0 where
  pub file_id : positions label 5 21 ≡ fields.file_id
  pub set_id : positions label 22 27 ≡ fields.set_id
  pub sect : HasNumber label 28 31 1 fields.sect
  pub sequence : HasNumber label 32 35 1 fields.sequence
  pub generation : positions label 36 39 ≡ fields.generation
  pub gen_version : positions label 40 41 ≡ fields.gen_version
  pub created : positions label 42 47 ≡ fields.created
  pub expires : positions label 48 53 ≡ fields.expires
  pub access : positions label 54 54 ≡ fields.access ∷ []
  pub implementation : positions label 61 73 ≡ fields.implementation

-- the label is a first header label with the given fields, and any block count at positions 55 to
-- 60
pub record IsHead1 (label : List ℕ) (fields : Head1) : Type 0 where
  pub kind : HasKind label kinds.Hdr1
  pub head : HasHead label fields

-- The numbers fit their digits and are at least 1.
pub record HeadFits (fields : Head1) : Type 0 where
  pub sect : (1 ≤ fields.sect) × (fields.sect ≤ 9999)
  pub sequence : (1 ≤ fields.sequence) × (fields.sequence ≤ 9999)
