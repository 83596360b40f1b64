pub mod Ranges
pub mod Waves
