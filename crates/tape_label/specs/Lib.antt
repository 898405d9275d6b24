-- the definitions that a reader has to trust, in this order:
pub mod Positions
pub mod Digits
pub mod Characters
pub mod Formats
pub mod Kinds
pub mod Vol1
pub mod Head1
pub mod Head2
pub mod WideHead2
pub mod Trail1
pub mod Labels
pub mod VolumeLabels
pub mod Widths
pub mod Written
pub mod Faults
pub mod Laws
pub mod Cases
-- only needed for the order of the faults:
pub mod Reading
