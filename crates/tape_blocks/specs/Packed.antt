-- The meaning of a packer's bytes: the parts of its current block are read from them.
use Rattle.std.specs.Prelude.{◌≡◌, ℕ, ◌<◌, ◌≤◌, true, List, length, take, drop, replicate, vec_len}
use Rattle.std.specs.{Prelude.vec_capacity, List.AllByRecursion}
use Rattle.tape_label.specs.declared.values.Format.TheVariants.{Spanned}
use Rattle.tape_blocks.specs.{declared.parts.Shape.Shape, declared.packer.Packer.TheInside.Inside}
use Rattle.tape_blocks.specs.{Block.Portion, Block.IsUnit, Block.spellings, Parts.parts_of}
use Rattle.tape_blocks.specs.Packing.{Packing, IsWritable}

-- the bytes of the current block after its offset
abbrev pub body_of : Shape → List ℕ → ℕ → List ℕ
body_of shape items len = drop shape.offset (take len items)

-- the parts of the current block
abbrev pub parts_in : Shape → List ℕ → ℕ → List Portion
parts_in shape items len = parts_of shape.format shape.rec_len (body_of shape items len)

-- the state of a packer that callers see
abbrev pub packing : Inside → Packing
packing a =
    record {
      shape = a.shape;
      parts = parts_in a.shape a.block.items a.len;
      begun = a.begun;
      closed = a.closed;
    }

-- The bytes of the current block are the spaces of the buffer offset and the units of the given
-- parts.
pub record Keeps (shape : Shape) (items : List ℕ) (len : ℕ) (parts : List Portion) : Type 0 where
  pub front : take shape.offset items ≡ replicate shape.offset 32
  pub begins : shape.offset ≤ len
  pub inside : len ≤ length items
  pub within : len ≤ shape.block_len
  pub units : AllByRecursion (IsUnit shape.format shape.rec_len) parts
  pub body : body_of shape items len ≡ spellings shape.format parts

-- the invariant of a packer
pub record IsKept (a : Inside) : Type 0 where
  pub writable : IsWritable a.shape
  pub size : vec_len a.block ≡ a.shape.block_len
  pub room : vec_capacity a.block ≡ a.shape.block_len
  pub keeps : Keeps a.shape a.block.items a.len (parts_in a.shape a.block.items a.len)
  pub closed : a.closed ≡ true → a.shape.offset < a.len
  pub begun : a.begun ≡ true → a.shape.format ≡ Spanned
