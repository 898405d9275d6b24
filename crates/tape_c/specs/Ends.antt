-- How a call ends, and what it writes to a buffer.
use Rattle.std.specs.Prelude.{◌≡◌, ℕ, nat_lt, if◌then◌else◌, List, ◌++◌, length, take, drop}
use Rattle.tape_c.specs.declared.end.End.{End}

-- As much of the text as has room is at the start of the buffer, whose other bytes are as before.
-- The end of the call has the given place, and the given state unless the buffer is too short.
pub record Gives (text : List ℕ) (place state : ℕ) (old new : List ℕ) (end : End) : Type 0 where
  pub needed : end.needed ≡ length text
  pub put : new ≡ take (length old) text ++ drop (length text) old
  pub count : end.count ≡ length (take (length old) text)
  pub placed : end.place ≡ place
  pub says : end.state ≡ (if nat_lt (length old) (length text) then 7 else state)

-- the end of a call that wrote nothing
abbrev pub nothing_given : ℕ → End
nothing_given state = record { count = 0; needed = 0; place = 0; state = state }
