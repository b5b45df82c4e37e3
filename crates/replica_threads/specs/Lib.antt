pub mod HostFaults
pub mod Stations
pub mod Hosts
pub use Rattle.byz_world.specs.Facts
pub use Rattle.byz_world.specs.Records
pub use Rattle.byz_world.specs.Setup
pub use Rattle.byz_world.specs.Worlds
