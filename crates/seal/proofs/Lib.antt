pub mod Authenticity
pub mod Openings
pub mod EncodingLaws
pub mod Children
pub mod Wholes
mod Voting
mod Listing
pub use Rattle.lms_tree.proofs.KeyLemmas
pub use Rattle.lms_tree.proofs.ShortLemmas
