pub mod Codes
pub mod Each
pub mod Members
pub mod Prefixes
pub mod Routing
