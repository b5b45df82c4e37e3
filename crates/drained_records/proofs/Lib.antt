pub mod Laws
pub mod Receiving
pub mod Finding
pub use Rattle.byz_world.proofs.RunLaws
