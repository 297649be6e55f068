pub mod InfoLemmas
pub mod RecordLemmas
