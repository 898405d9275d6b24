-- A reader of a valid set, the section that it expects, and the volume that is read.
use Rattle.std.proofs.Common.{◌≡◌, ◌<◌, ◌≤◌, ◌⊎◌, ℕ, List, length, Bool, Some}
use Rattle.tape_set.specs.declared.position.Position.TheVariants.{Awaits}
use Rattle.tape_set.specs.Layout.{FileSet, Section, Volume, nth, section_of}
use Rattle.tape_set.specs.{Before.parts_at, Lawful.IsLawful}
use Rattle.tape_core.specs.{State.State, Follows.IsAt, Follows.IsReading}

-- `w` is section number `sect`, `v` is volume number `k`, and `good` says which of the items so far
-- were readable.
pub record Aim : Type 0 where
  pub set : FileSet
  pub l : IsLawful set
  pub core : State
  pub at : IsAt set core
  pub sect : ℕ
  pub block : ℕ
  pub part : ℕ
  pub k : ℕ
  pub w : Section
  pub found : section_of set core.file sect ≡ Some w
  pub inside : block ≤ length w.blocks
  pub within : (part ≡ 0) ⊎ (part < length (parts_at w.blocks block))
  pub v : Volume
  pub vol : nth set.volumes k ≡ Some v
  pub good : List Bool

-- the section expected by a reading that began at a part of a block
abbrev pub aim_of : (set : FileSet) → IsLawful set → (core : State) (sect block part k : ℕ)
    (v : Volume) → nth set.volumes k ≡ Some v → (good : List Bool)
    → IsReading set (Awaits sect block part) k good core → Aim
aim_of set l core sect block part k v vol good r =
    record {
      set = set;
      l = l;
      core = core;
      at = r.at;
      sect = sect;
      block = block;
      part = part;
      k = k;
      w = r.from.0;
      found = r.from.1;
      inside = r.from.2;
      within = r.from.3;
      v = v;
      vol = vol;
      good = good;
    }
