pub mod Text
pub mod Words
pub mod Operands
pub mod Lines
pub mod Assembly
pub mod Printing
pub mod Rounds
pub mod Faults
