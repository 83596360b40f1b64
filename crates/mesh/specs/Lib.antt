pub mod Reads
pub mod Reports
