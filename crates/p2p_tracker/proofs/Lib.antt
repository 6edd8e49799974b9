pub mod Definitions
pub mod SetsAndRecords
