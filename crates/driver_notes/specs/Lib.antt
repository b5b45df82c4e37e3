pub mod Repeating
pub mod Blaming
pub mod Accounts
pub use Rattle.conflicts.specs.declared.claim.Claim
