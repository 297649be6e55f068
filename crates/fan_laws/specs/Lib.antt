pub mod Causes
pub mod InOrder
pub mod Reclaiming
pub mod Runs
pub mod Whole
