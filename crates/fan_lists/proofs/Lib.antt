pub mod Choices
pub mod Counts
pub mod Filters
pub mod Finds
pub mod FirstLemmas
pub mod Pairs
pub mod Places
