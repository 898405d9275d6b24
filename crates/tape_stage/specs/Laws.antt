-- Laws about the texts of checkpoints, and about the bytes of a stage, which have at most one
-- meaning. Each is the contract of a call in the module `laws`.
use Rattle.std.specs.Prelude.{◌≡◌, ◌⊎◌, ◌<◌, ◌≤◌, ◌+◌, ℕ, Bool, List, ◌∷◌, ◌++◌, length}
use Rattle.tape_blocks.specs.Block.{Portion}
use Rattle.tape_set.specs.Position.{block_of, part_of}
use Rattle.tape_core.specs.{Point.Point, Point.IsPoint, Stands.weight_of}
use Rattle.tape_stage.specs.declared.point.Version.TheVariants.{One, Two}
use Rattle.tape_stage.specs.Staged.{Holding, IsEither, NamedIn, SameFrames, Staged, StagedIn}
use Rattle.tape_stage.specs.{Text.IsPointText, Text.KnownFits, Fields.form_of, Found.IsBadPlace}
use Rattle.tape_stage.specs.declared.point.Version.{Version}

-- if bytes are the text of two checkpoints, the checkpoints and the versions are the same
abbrev pub IsTextOfOne : Type 0
IsTextOfOne = (bytes : List ℕ) (v w : Version) (a b : Point)
    → IsPointText v bytes a → IsPointText w bytes b → (v ≡ w) × (a ≡ b)

-- a checkpoint has at most one text in each version, of 80 characters
abbrev pub IsTextOnce : Type 0
IsTextOnce = (version : Version) (a b : List ℕ) (c : Point)
    → IsPointText version a c → IsPointText version b c → (a ≡ b) × (length a ≡ 80)

-- a checkpoint with a block up to 999,999 and part 0 has a text in each version
abbrev pub HasBothTexts : Type 0
HasBothTexts = (c : Point) → IsPoint c → KnownFits c.known → length c.set_id ≡ 6
    → length (form_of c.known).file_id ≡ 17 → block_of c.position ≤ 999999 → part_of c.position ≡ 0
    → (one : List ℕ) × (two : List ℕ) × IsPointText One one c × IsPointText Two two c

-- the bytes represent at most one generation, checkpoint and list of parts
abbrev pub StandsOnce : List ℕ → Type 0
StandsOnce bytes = (g h : ℕ) (point next : Point) (parts more : List Portion) → Staged bytes g point
    parts → Staged bytes h next more → (g ≡ h) × (point ≡ next) × (parts ≡ more)

-- the bytes represent one of two checkpoints and its parts, under some generation
abbrev pub StandsForOne : Point → List Portion → Point → List Portion → List ℕ → Type 0
StandsForOne point parts next more bytes = ((g : ℕ) × Staged bytes g point parts)
    ⊎ ((g : ℕ) × Staged bytes g next more)

-- reading such bytes gives one of the two checkpoints, with its parts
abbrev pub ReadsOneOf : List ℕ → Type 0
ReadsOneOf bytes = (point next : Point) (parts more : List Portion) → StandsForOne point parts next
    more bytes → (g : ℕ) (read : Point) (there : List Portion) → Staged bytes g read there
    → ((read ≡ point) × (there ≡ parts)) ⊎ ((read ≡ next) × (there ≡ more))

-- if a named slot of the bytes represents a checkpoint and its parts, so do the bytes
abbrev pub NamedStands : List ℕ → Type 0
NamedStands bytes = (second : Bool) (g : ℕ) (point : Point) (parts : List Portion)
    → StagedIn second g point parts bytes → Staged bytes g point parts

-- bytes with one generation or the next represent one of the two checkpoints
abbrev pub EitherStands : List ℕ → Type 0
EitherStands bytes = (second : Bool) (g : ℕ) (point next : Point) (parts more : List Portion)
    → IsEither second g point next parts more bytes → StandsForOne point parts next more bytes

-- If the slot names a checkpoint inside one of the parts of the bytes `old`, and the frames up to
-- its weight are theirs, there is no valid frame where this part begins.
abbrev pub BadInside : List ℕ → List ℕ → Type 0
BadInside old bytes = (second : Bool) (g : ℕ) (point : Point) (weight : ℕ)
    (front rest : List Portion) (part : Portion) → Holding weight (front ++ part ∷ rest) old
    → NamedIn second g point bytes → SameFrames point.staged old bytes
    → weight_of front < point.staged → point.staged < weight_of front + (5 + length part.bytes)
    → IsBadPlace bytes (256 + weight_of front)
