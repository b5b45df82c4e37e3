pub mod TreeLemmas
pub mod SignatureLemmas
pub use Rattle.lms_ots.proofs.Chains
pub use Rattle.lms_ots.proofs.Concatenation
