pub mod Accepted
pub mod Faults
pub mod Sessions
pub use Rattle.pbft_agreement.specs.Journals
