-- Packing of whole records, and of lists of records.
use Rattle.std.specs.Prelude.{ℕ, ◌≡◌, false, List, [], ◌∷◌, ◌++◌, map, length}
use Rattle.std.specs.declared.alloc.Global.{Global}
use Rattle.std.specs.declared.vec.Vec.{Vec}
use Rattle.std.specs.List.{Contains}
use Rattle.tape_blocks.specs.declared.offer.PackFault.{PackFault}
use Rattle.tape_blocks.specs.declared.offer.PackFault.TheVariants.{RecordLength, ShapeRange}
use Rattle.tape_blocks.specs.declared.offer.PackFault.TheVariants.{OutOfMemory}
use Rattle.tape_blocks.specs.declared.parts.Shape.{Shape}
use Rattle.tape_blocks.specs.Packing.{Packing, IsWritable, HasRecordLength}
use Rattle.tape_blocks.specs.Run.{RunOf}
use Rattle.tape_blocks.specs.Tight.{Filled, bytes_of_all}

-- the bytes of each vector
abbrev pub contents : List (Vec ℕ Global) → List (List ℕ)
contents vs = map (λ v. v.items) vs

-- Some record has a length that the shape does not allow.
abbrev pub HasOtherLength : Shape → List (List ℕ) → Type 0
HasOtherLength shape records =
    (r : List ℕ) × Contains records r × (HasRecordLength shape.format shape.rec_len (length r) → ⊥)

-- Why records are not packed: the shape is checked first, then each record's length in order;
-- memory can be refused anywhere after the shape.
abbrev pub IsRefusedFor : Shape → List (List ℕ) → PackFault → Type 0
IsRefusedFor shape records RecordLength = IsWritable shape × HasOtherLength shape records
IsRefusedFor shape records ShapeRange = IsWritable shape → ⊥
IsRefusedFor shape records OutOfMemory = IsWritable shape

-- why one record is not packed
abbrev pub IsRefusedOne : Shape → List ℕ → PackFault → Type 0
IsRefusedOne shape whole RecordLength =
    HasRecordLength shape.format shape.rec_len (length whole) → ⊥
IsRefusedOne shape whole ShapeRange = ⊥
IsRefusedOne shape whole OutOfMemory = Unit {0}

-- why a record is not packed after other records
abbrev pub RefusesRecord : Packing → List ℕ → PackFault → Type 0
RefusesRecord old whole e =
    (taken : List Filled) (records : List (List ℕ)) → RunOf taken old records
    → IsRefusedOne old.shape whole e

-- A run continues with the record `whole`, and the blocks taken for it follow the texts.
pub record PutsRecord (old : Packing) (texts : List (List ℕ)) (whole : List ℕ)
    (new : Packing) (more : List (List ℕ)) : Type 0 where
  pub shape : new.shape ≡ old.shape
  pub ended : new.begun ≡ false
  pub length_is : (taken : List Filled) (records : List (List ℕ)) → RunOf taken old records
      → HasRecordLength old.shape.format old.shape.rec_len (length whole)
  pub run : (taken : List Filled) (records : List (List ℕ)) → RunOf taken old records
      → (filled : List Filled) × (texts ++ bytes_of_all filled ≡ more)
      × RunOf (taken ++ filled) new (records ++ whole ∷ [])
