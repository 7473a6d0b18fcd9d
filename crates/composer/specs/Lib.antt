pub mod Announced
pub mod Composes
pub mod Contents
pub mod Laws
pub mod Writers
pub mod Writing
