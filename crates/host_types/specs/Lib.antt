pub mod Configuration
pub mod Bits
pub mod Held
