pub mod SlotsState
pub mod Placed
pub mod Lends
pub mod Seen
