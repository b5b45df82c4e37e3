pub mod Blames
pub mod Claims
pub mod Gathering
pub mod Leaves
pub mod Views
