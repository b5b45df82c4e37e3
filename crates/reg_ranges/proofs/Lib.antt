pub mod Edges
pub mod Sound
