pub mod Picks
pub mod Replies
