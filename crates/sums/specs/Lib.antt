pub mod Counting
pub mod Days
pub mod Nets
pub mod Sums
pub mod Tables
