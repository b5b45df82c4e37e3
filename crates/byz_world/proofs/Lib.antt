mod NotedLaws
mod Lists
mod HistoryLaws
mod AuditLaws
mod HandingLaws
mod OutputLaws
mod HonestLaws
mod FirstLaws
mod ProcedureLaws
mod RecordLaws
mod JournalLaws
mod WorldAudits
pub mod RunLaws
pub use Rattle.pbft_codec.proofs.MessageLaws
pub use Rattle.pbft_model.proofs.Found
pub use Rattle.pbft_model.proofs.Leaves
