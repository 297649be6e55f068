pub mod DumpLemmas
pub mod InfoLemmas
