pub mod Asked
pub mod Entered
pub mod Repeats
