-- the definitions that a reader has to trust, in this order:
pub mod Answers
pub mod Tapes
pub mod Kept
pub mod Images
-- labels in EBCDIC:
pub mod Coded
pub mod Fields
pub mod Labels
pub mod Told
pub mod State
pub mod Room
pub mod Lasting
pub mod Faults
pub mod Refusals
-- sets written from inputs:
pub mod Records
pub mod RecordLaws
pub mod ToldFiles
pub mod WriteSet
pub mod LeftOf
pub mod WriteFaults
-- blank volumes:
pub mod Blank
-- image files:
pub mod System
pub mod Holding
-- test cases for these definitions:
pub mod Cases
pub mod CasesOfInputs
pub mod CasesOfFronts
pub mod CasesOfDrafts
pub mod CasesOfHolding
-- sets that are being written, only used by the proofs:
pub mod Draft
pub mod Inside
pub mod Front
