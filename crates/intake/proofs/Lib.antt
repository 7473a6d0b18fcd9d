pub mod Figures
pub mod Founds
pub mod Requires
