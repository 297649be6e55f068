pub mod Dropping
pub mod Hints
pub mod Noted
pub mod Stored
pub mod Tables
