pub mod Names
pub mod NameBytes
pub mod Events
pub mod Notices
pub mod Keys
