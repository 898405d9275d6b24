-- The contents of a disk in memory.
use Rattle.std.specs.Prelude.{ℕ, List, ◌≡◌, [], ◌∷◌, ◌++◌}
use Rattle.tape_stage.specs.Calls.{kept_or, worst_by, IsImage, WasImage, after}
use Rattle.tape_stage.specs.declared.disk.content.Content.{Content}
use Rattle.tape_stage.specs.declared.{disk.memory.MemoryDisk.MemoryDisk, disk.content.Call.Call}

abbrev pub first_of : Content → List ℕ
first_of content = kept_or content.changed content.first.items content.bytes.items

abbrev pub memory_bytes : MemoryDisk → List ℕ
memory_bytes disk = disk.content.bytes.items

-- the contents that a crash may leave
abbrev pub memory_leaves : MemoryDisk → List ℕ → Type 0
memory_leaves disk c = IsImage (first_of disk.content) disk.content.calls.items c

-- the contents that a crash since then may have left
abbrev pub memory_left : MemoryDisk → ℕ → List ℕ → Type 0
memory_left disk t c = WasImage (first_of disk.content) disk.content.calls.items t c

-- the worst contents: 255 for every byte that is not durable, and no byte missing
abbrev pub memory_worst : MemoryDisk → List ℕ
memory_worst disk = worst_by (first_of disk.content)
    (first_of disk.content) disk.content.calls.items

pub record SameContent (old new : Content) : Type 0 where
  pub bytes : new.bytes.items ≡ old.bytes.items
  pub first : kept_or new.changed new.first.items new.bytes.items
      ≡ kept_or old.changed old.first.items old.bytes.items
  pub worst : kept_or new.changed new.worst.items new.bytes.items
      ≡ kept_or old.changed old.worst.items old.bytes.items
  pub calls : new.calls.items ≡ old.calls.items

pub record DidCall (call : Call) (old new : Content) : Type 0 where
  pub bytes : new.bytes.items ≡ after old.bytes.items call
  pub first : kept_or new.changed new.first.items new.bytes.items
      ≡ kept_or old.changed old.first.items old.bytes.items
  pub calls : new.calls.items ≡ old.calls.items ++ call ∷ []
