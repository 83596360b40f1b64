pub mod Writes
pub mod Steps
