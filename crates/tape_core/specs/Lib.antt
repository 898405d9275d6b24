-- Definitions to believe for a reader over a valid set: its state, how it follows a reading, valid
-- checkpoints, and foreign reels.
pub mod State
pub mod Follows
pub mod Stands
pub mod Place
pub mod Foreign
-- Checkpoints: their invariant, as a proposition and as a decidable test.
pub mod Known
pub mod Point
pub mod Range
-- Sinks: the contracts of their calls, the contents of the sink in memory, and the sink that
-- refuses one call.
pub mod Weight
pub mod Crash
pub mod Walks
pub mod Entries
pub mod Memory
pub mod Refusing
-- The reading table: the effect of a step for any items.
pub mod Arrive
pub mod Labels
pub mod Parts
pub mod Table
pub mod Wide
pub mod Behind
pub mod Expects
pub mod Overlap
pub mod Faults
-- Tapes that are not written as the standard would have them.
pub mod NormalForm
-- Examples, which ensure that the definitions do not say too little.
pub mod Cases
