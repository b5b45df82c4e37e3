mod Unless
mod Documents
mod Counting
mod Ordering
pub mod TextFaults
mod Items
