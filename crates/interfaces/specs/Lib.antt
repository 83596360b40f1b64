pub mod Answers
pub mod Refusals
pub mod Sides
pub mod Whole
