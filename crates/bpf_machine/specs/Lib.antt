pub mod Represents
pub mod Stops
pub use Rattle.bpf_verifier.specs.Verified
