-- The normal form of a tape: the machine's table gives it, copies of valid sets keep theirs, and a
-- reader takes from it all that it takes from the tape.
pub mod Agree
pub mod AheadFacts
pub mod AheadRules
pub mod Ahead
pub mod Data
pub mod Found
pub mod Begun
pub mod KindKept
pub mod Numbers
pub mod Plain
pub mod LookedAt
pub mod Spelled
pub mod Same
pub mod Enough
pub mod Giving
pub mod Holding
pub mod Counting
pub mod Kept
pub mod Cut
