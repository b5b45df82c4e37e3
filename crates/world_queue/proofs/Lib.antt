mod Clients
mod Draws
mod Worked
pub use Rattle.client_session.proofs.Hearing
pub mod Lists
mod Parties
