-- the definitions that a reader has to trust, in this order:
pub mod Block
pub mod Spans
pub mod Checked
pub mod Faults
pub mod Packing
pub mod Tight
pub mod Records
pub mod Numbers
pub mod CountedForm
pub mod Laws
pub mod Cases
-- definitions similar to the code, proved to agree with the definitions above:
pub mod Units
pub mod Parts
pub mod PartsLeft
pub mod Judged
pub mod Content
pub mod WideLaws
-- definitions about private code, and about a caller's loop over offers:
pub mod Packed
pub mod Run
