pub mod Changes
pub mod Lines
pub mod Sayings
pub use Rattle.conflicts.specs.declared.blame.Blame
