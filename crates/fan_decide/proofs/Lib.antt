pub mod AnswerLemmas
pub mod NextLemmas
pub mod WordLemmas
