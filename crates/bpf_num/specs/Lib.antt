pub mod Arithmetic
pub mod Bind
pub mod ByteSwap
pub mod Jump
