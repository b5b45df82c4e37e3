pub mod LaneLemmas
mod Majority
