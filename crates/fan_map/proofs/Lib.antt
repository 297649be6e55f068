pub mod Insertions
pub mod JoinedLemmas
pub mod Keys
pub mod Numbers
pub mod Parts
pub mod Values
