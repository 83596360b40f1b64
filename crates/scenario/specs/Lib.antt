pub mod Printed
pub mod Answers
pub mod Program
pub mod Left
