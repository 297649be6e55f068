pub mod MapState
pub mod Counts
pub mod Joined
