mod Masks
pub mod Ballots
pub mod Least
pub mod Counts
pub mod First
pub mod Tables
pub use Rattle.pbft_model.proofs.Calm
pub use Rattle.pbft_model.proofs.Counting
pub use Rattle.pbft_model.proofs.Found
pub use Rattle.pbft_model.proofs.Gathering
pub use Rattle.pbft_model.proofs.Made
pub use Rattle.pbft_model.proofs.Stages
