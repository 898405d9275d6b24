-- The fields of written labels consist of a-characters.
use Rattle.std.specs.Prelude.{List, None, [], ℕ, ◌∷◌, ◌≡◌}
use Rattle.tape_label.specs.{declared.values.Head1.Head1, declared.values.Vol1.Vol1}
use Rattle.tape_label.specs.{Characters.first_other}

-- each byte is an a-character
abbrev pub IsText : List ℕ → Type 0
IsText bytes = first_other bytes ≡ None

-- The fields of the volume label are a-characters; the version is written unchanged.
pub record IsTextVolume (v : Vol1) : Type 0 where
  pub volume : IsText v.volume
  pub access : IsText (v.access ∷ [])
  pub implementation : IsText v.implementation
  pub owner : IsText v.owner

-- The fields of the head are a-characters, except for the set identifier, which is replaced.
pub record IsTextHead (h : Head1) : Type 0 where
  pub file_id : IsText h.file_id
  pub generation : IsText h.generation
  pub gen_version : IsText h.gen_version
  pub created : IsText h.created
  pub expires : IsText h.expires
  pub access : IsText (h.access ∷ [])
  pub implementation : IsText h.implementation
