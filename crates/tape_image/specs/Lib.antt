-- the definitions that a reader has to trust, in this order:
pub mod Tape
pub mod Word
pub mod Spelling
pub mod Begins
pub mod Fault
pub mod Reader
pub mod Step
pub mod Next
pub mod Calls
pub mod Written
pub mod Writer
-- images of other formats:
pub mod Format
pub mod Convert
pub mod FormatItems
pub mod Resync
-- laws about these definitions:
pub mod Laws
pub mod FormatLaws
pub mod ResyncLaws
pub mod Examples
-- definitions about private code, proved to agree with the definitions above:
pub mod Device
pub mod Begun
pub mod Front
pub mod State
pub mod Standing
pub mod FormatState
