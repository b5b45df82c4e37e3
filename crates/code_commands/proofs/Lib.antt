pub mod Folding
pub mod Back
