pub mod BitLemmas
pub mod ClientLemmas
mod EntryLemmas
pub mod InsertSorted
pub mod AscendingLemmas
