pub mod BlocksState
pub mod Gathers
