-- The number of characters in the fields of labels.
use Rattle.std.specs.Prelude.{◌≡◌, length}
use Rattle.tape_label.specs.{declared.values.Vol1.Vol1, declared.values.Head1.Head1}

-- The fields of a first label are as wide as their positions.
pub record IsWide (fields : Head1) : Type 0 where
  pub file_id : length fields.file_id ≡ 17
  pub set_id : length fields.set_id ≡ 6
  pub generation : length fields.generation ≡ 4
  pub gen_version : length fields.gen_version ≡ 2
  pub created : length fields.created ≡ 6
  pub expires : length fields.expires ≡ 6
  pub implementation : length fields.implementation ≡ 13

-- The fields of a volume label are as wide as their positions.
pub record IsWideVolume (fields : Vol1) : Type 0 where
  pub volume : length fields.volume ≡ 6
  pub implementation : length fields.implementation ≡ 13
  pub owner : length fields.owner ≡ 14
