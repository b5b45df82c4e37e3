pub mod Faults
pub mod Opcodes
pub mod Encoding
pub mod Parts
pub mod Taken
