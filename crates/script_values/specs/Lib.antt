pub mod Faults
pub mod Forms
pub mod KeyShapes
pub mod Kinds
pub mod Nodes
