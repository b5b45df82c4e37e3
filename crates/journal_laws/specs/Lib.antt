pub mod Replay
pub mod Blame
pub mod Views
