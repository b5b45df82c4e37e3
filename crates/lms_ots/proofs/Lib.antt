pub mod BufferLemmas
pub mod Concatenation
pub mod Chains
pub mod Law
pub mod Hashing
pub mod DigitLemmas
mod Blocks
mod LaneLemmas
mod EndLemmas
