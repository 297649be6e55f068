pub mod Access
pub mod Kept
pub mod Operations
pub mod Rounds
