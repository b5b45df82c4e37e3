pub mod Faults
pub mod Fields
pub mod Header
pub mod Section
pub mod Object
