pub mod WordLemmas
pub mod FieldLemmas
pub mod TreeLemmas
pub mod GroupLemmas
pub mod AccessLemmas
pub mod FormLemmas
pub mod LineLemmas
