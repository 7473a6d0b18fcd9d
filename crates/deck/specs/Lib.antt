pub mod Text
pub mod Deck
