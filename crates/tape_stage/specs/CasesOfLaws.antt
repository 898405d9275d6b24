-- The conclusions that a caller can draw from each law of texts and stages, which ensure that no
-- law has a premise that is never true; and the bytes of a generation or the next one. They are
-- also part of the contract of the call `laws::cases`.
use Rattle.std.specs.Prelude.{◌≡◌, ◌⊎◌, ◌≤◌, ℕ, List, length, false, true}
use Rattle.tape_blocks.specs.Block.{Portion}
use Rattle.tape_set.specs.Position.{block_of, part_of}
use Rattle.tape_core.specs.Point.{Point, IsPoint}
use Rattle.tape_stage.specs.Laws.{StandsOnce, ReadsOneOf, NamedStands, EitherStands}
use Rattle.tape_stage.specs.{declared.point.Version.Version, declared.point.Version.TheVariants.One}
use Rattle.tape_stage.specs.{declared.point.Version.TheVariants.Two, Fields.form_of}
use Rattle.tape_stage.specs.{Laws.IsTextOfOne, Laws.IsTextOnce, Laws.HasBothTexts, Staged.Staged}
use Rattle.tape_stage.specs.{Staged.StagedIn, Staged.IsEither, Text.IsPointText, Text.KnownFits}

-- laws, and two consecutive generations
pub record CasesOfLaws : Type 0 where
  -- either the acknowledged generation is in its slot, or the next generation is in the other slot
  pub of_either : (point next : Point) (parts more : List Portion) (bytes : List ℕ)
      → IsEither false 3 point next parts more bytes
      → StagedIn false 3 point parts bytes ⊎ StagedIn true 4 next more bytes
  pub by_either : (point next : Point) (parts more : List Portion) (bytes : List ℕ)
      → StagedIn false 3 point parts bytes ⊎ StagedIn true 4 next more bytes
      → IsEither false 3 point next parts more bytes
  -- bytes represent one checkpoint with its parts, under one generation
  pub once : (bytes : List ℕ) (g h : ℕ) (point next : Point) (parts more : List Portion)
      → StandsOnce bytes → Staged bytes g point parts → Staged bytes h next more
      → (g ≡ h) × (point ≡ next) × (parts ≡ more)
  pub one_of : (bytes : List ℕ) (g h : ℕ) (point next read : Point)
      (parts more there : List Portion) → ReadsOneOf bytes → Staged bytes g next more → Staged bytes
      h read there → ((read ≡ point) × (there ≡ parts)) ⊎ ((read ≡ next) × (there ≡ more))
  pub named : (bytes : List ℕ) (g : ℕ) (point : Point) (parts : List Portion)
      → NamedStands bytes → StagedIn true g point parts bytes → Staged bytes g point parts
  pub either : (bytes : List ℕ) (point next : Point) (parts more : List Portion)
      → EitherStands bytes → IsEither false 3 point next parts more bytes
      → ((g : ℕ) × Staged bytes g point parts) ⊎ ((g : ℕ) × Staged bytes g next more)
  -- a text belongs to one checkpoint in one version, and the checkpoint has no other text in that
  -- version
  pub text_of_one : (bytes : List ℕ) (v w : Version) (a b : Point) → IsTextOfOne
      → IsPointText v bytes a → IsPointText w bytes b → (v ≡ w) × (a ≡ b)
  pub one_text : (version : Version) (a b : List ℕ) (c : Point) → IsTextOnce
      → IsPointText version a c → IsPointText version b c → (a ≡ b) × (length a ≡ 80)
  pub both_texts : (c : Point) → HasBothTexts → IsPoint c → KnownFits c.known → length c.set_id ≡ 6
      → length (form_of c.known).file_id ≡ 17 → block_of c.position ≤ 999999 → part_of c.position
      ≡ 0 → (one : List ℕ) × (two : List ℕ) × IsPointText One one c × IsPointText Two two c
