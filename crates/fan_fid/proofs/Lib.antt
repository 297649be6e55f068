pub mod WrittenLemmas
pub mod NameLemmas
pub mod InfoLemmas
pub mod AgainLemmas
