pub mod EntriesLemmas
pub mod MeaningLemmas
