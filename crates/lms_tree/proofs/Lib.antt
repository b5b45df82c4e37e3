pub mod LengthLemmas
pub mod FaultLemmas
pub mod PositionLemmas
pub mod KeyLemmas
pub mod VerifierLemmas
pub mod PartLemmas
pub mod ShortLemmas
