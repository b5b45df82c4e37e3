pub mod Ots
pub mod Words
