pub mod Script
pub mod Views
