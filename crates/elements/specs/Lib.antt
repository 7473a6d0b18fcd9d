pub mod Fields
pub mod Moments
pub mod Numbers
pub mod Originals
pub mod Refusals
pub mod Table
