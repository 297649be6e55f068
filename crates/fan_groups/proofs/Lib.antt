pub mod Open
pub mod Bounded
