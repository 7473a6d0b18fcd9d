pub mod States
pub mod Requests
pub mod Reversals
pub mod Forwardings
pub mod Handled
pub mod Orders
