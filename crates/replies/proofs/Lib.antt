pub mod Allowed
pub mod Along
pub mod Examples
pub mod Requests
pub mod Says
pub mod Steps
pub mod Wholes
