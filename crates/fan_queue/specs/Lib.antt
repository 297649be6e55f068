pub mod QueueState
pub mod Queue
pub mod Queued
pub mod Keys
pub mod Cells
pub mod TableState
pub mod Table
pub mod Kept
