pub mod Audits
pub mod Telling
