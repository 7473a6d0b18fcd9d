pub mod Tries
pub mod Views
