-- The contents that a crash may have left while calls were made.
use Rattle.std.specs.Prelude.{◌≡◌, ◌⊎◌, ℕ, ◌≤◌, List, Result, OnOk, OnErr}
use Rattle.tape_core.specs.Weight.{Rose}
use Rattle.tape_stage.specs.{declared.disk.Disk.Ghosts, declared.disk.DiskFault.DiskFault}
use Rattle.tape_stage.specs.Disk.{Only}

-- contents that may be left now, or contents that a step changed
abbrev pub After : (List ℕ → List ℕ → Type 0) → (List ℕ → Type 0) → List ℕ → Type 0
After step may_leave c = may_leave c ⊎ ((d : List ℕ) × may_leave d × step d c)

-- all bytes are durable: a crash now leaves the bytes that reads return, and nothing else
abbrev pub IsDurable : {D : Type 0} → Ghosts D → D → Type 0
IsDurable g disk = Only (g.seen disk) (g.may_leave disk)

-- A crash at any moment since `old` left contents that were possible before, or contents that
-- satisfy P; and so does a crash now.
pub record Passes {D : Type 0} (g : Ghosts D) (old new : D) (P : List ℕ → Type 0) : Type 0 where
  pub later : g.moment old ≤ g.moment new
  pub before : (t : ℕ) (c : List ℕ) → t ≤ g.moment old → g.left_since new t c
      → g.left_since old t c ⊎ P c
  pub now : (c : List ℕ) → g.may_leave new c → P c

-- Nothing was written since `old`: reads return the same bytes, and a crash at any moment since
-- then left only contents that were possible at `old`.
pub record Untouched {D : Type 0} (g : Ghosts D) (old new : D) : Type 0 where
  pub read : g.seen new ≡ g.seen old
  pub crash : Passes g old new (g.may_leave old)

-- A call that ends with a sync: after Ok all bytes are durable, and the disk is as honest as
-- before; after Err the disk failed. No disk became honest.
pub record EndsSynced {A D : Type 0} (g : Ghosts D) (old : D) (result : Result A DiskFault)
    (new : D) : Type 0 where
  pub durable : g.is_honest old → OnOk result (IsDurable g new)
  pub cause : OnErr result (Rose (g.faults old) (g.faults new))
  pub calm : OnOk result (g.faults new ≡ g.faults old)
  pub honest : OnOk result (g.is_honest old → g.is_honest new)
  pub back : g.is_honest new → g.is_honest old
