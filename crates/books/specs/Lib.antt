pub mod Sizes
pub mod Ledgers
