pub mod FileLemmas
pub mod RoundLemmas
pub mod ScriptLemmas
pub mod SummaryLemmas
