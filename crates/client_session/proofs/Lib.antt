mod Accepting
pub mod Hearing
mod Signing
mod LastReplies
mod Rising
mod Vouched
