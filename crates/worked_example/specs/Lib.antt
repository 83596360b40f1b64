pub mod Canal
