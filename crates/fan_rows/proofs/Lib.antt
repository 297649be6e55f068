pub mod Chains
pub mod Codes
pub mod Counting
pub mod Example
pub mod Planted
pub mod SameLists
pub mod TreeLemmas
pub mod Walks
