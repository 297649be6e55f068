pub mod Calls
pub mod Fates
pub mod Rules
pub mod Bits
pub mod Steps
pub mod Turns
