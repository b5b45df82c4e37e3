pub mod Faults
pub mod Tree
pub mod Signature
pub mod Verifying
pub use Rattle.lms_ots.specs.Ots
