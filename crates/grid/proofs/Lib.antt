pub mod Joins
pub mod Sheets
pub mod Levels
pub mod Finds
pub mod Paints
pub mod Indices
pub mod Rows
pub mod Cover
