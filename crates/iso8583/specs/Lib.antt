pub mod Bitmap
pub mod Messages
pub mod Reading
pub mod Tiled
pub mod Walked
