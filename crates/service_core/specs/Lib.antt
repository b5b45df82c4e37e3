pub mod Sinks
pub mod StateFaults
pub mod Readings
