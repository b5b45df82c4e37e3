pub mod Replies
pub mod Heard
