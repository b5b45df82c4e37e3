pub mod Filling
pub mod OneLane
pub mod WholeRun
pub mod Dealt
pub mod Picking
pub mod Ended
