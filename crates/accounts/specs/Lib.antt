pub mod Answers
pub mod Balances
pub mod Histories
pub mod Made
pub mod Opening
pub mod Views
