-- The effect on a disk of a call that only reads.
use Rattle.std.specs.Prelude.{◌≡◌}
use Rattle.tape_stage.specs.Disk.{IsLater, NoMore, SameFact}
use Rattle.tape_stage.specs.{declared.disk.Disk.Ghosts, Moments.Passes}

-- The length is unchanged, and no disk became honest; on an honest disk reads return the same
-- bytes, and a crash at each moment left contents that were possible before.
pub record OnlyReads {D : Type 0} (g : Ghosts D) (old new : D) : Type 0 where
  pub same : g.is_honest old → g.seen new ≡ g.seen old
  pub same_length : g.length_of new ≡ g.length_of old
  pub any_moment : g.is_honest old → Passes g old new (g.may_leave old)
  pub back : g.is_honest new → g.is_honest old

-- A single read: the disk keeps its length and its honesty; on an honest disk reads return the same
-- bytes, a crash leaves contents that were possible before, and time passes.
pub record Looks {D : Type 0} (g : Ghosts D) (old new : D) : Type 0 where
  pub same_length : g.length_of new ≡ g.length_of old
  pub same : g.is_honest old → g.seen new ≡ g.seen old
  pub crash : g.is_honest old → NoMore (g.may_leave old) (g.may_leave new)
  pub time : g.is_honest old → IsLater g.moment g.left_since g.may_leave old new
  pub honest : SameFact (g.is_honest old) (g.is_honest new)
