pub mod Slots
pub mod Table
pub mod Reading
pub mod Instructions
pub mod Encodings
pub mod Deciding
pub mod Narrow
pub mod Taking
