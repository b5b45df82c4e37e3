pub mod Dealing
pub mod Lanes
pub mod Runs
pub mod Settled
