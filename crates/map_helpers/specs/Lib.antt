pub mod Helpers
pub mod Effects
pub use Rattle.tenant_maps.specs.Entries
