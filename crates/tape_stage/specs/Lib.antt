-- definitions to believe, in this order; checkpoints:
pub mod Fields
pub mod Text
pub mod Reading
-- disks, and the disk in memory:
pub mod Disk
pub mod Calls
pub mod Memory
-- stages:
pub mod Body
pub mod Parts
pub mod Staged
pub mod Moments
pub mod Stages
pub mod Found
pub mod Faults
pub mod Reads
-- stages that are only read, and the remains of damaged stages:
pub mod OnlyReading
pub mod Salvaged
-- buffered bytes:
pub mod Holding
-- laws about these definitions, which are proved:
pub mod Laws
-- examples, which ensure that the definitions do not say too little:
pub mod Cases
pub mod CasesOfLaws
pub mod CasesOfSalvage
