mod AsBox
pub mod Kept
pub mod Told
