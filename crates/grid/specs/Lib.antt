pub mod Sizes
pub mod Cells
pub mod Boxes
pub mod Tables
pub mod Hierarchies
pub mod Marks
pub mod Layouts
