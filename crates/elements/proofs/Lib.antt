pub mod Fractions
pub mod Numerals
pub mod Rows
