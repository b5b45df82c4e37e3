pub mod BytesRead
pub mod Kept
