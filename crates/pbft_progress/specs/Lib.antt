pub mod Progress
pub mod Drained
pub mod Votes
pub use Rattle.pbft_model.specs.Words
