pub mod Procedures
pub mod ReadOperations
pub use Rattle.bpf_machine.specs.Verified
