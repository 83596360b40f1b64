pub mod Prolongation
pub mod Flags
pub mod Shares
