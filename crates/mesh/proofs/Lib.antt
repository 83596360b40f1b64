pub mod Pours
pub mod Opens
pub mod Totals
