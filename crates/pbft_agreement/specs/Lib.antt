pub mod Received
pub mod Agreement
pub mod Journals
pub mod RowRules
pub mod Worked
pub mod Example
pub mod Episode
