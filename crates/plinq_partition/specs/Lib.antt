pub mod Cuts
pub mod Faults
pub mod GivenBack
pub mod Partitions
pub mod PartitionRecords
pub mod Together
pub mod inner
