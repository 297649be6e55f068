pub mod Kept
pub mod Mounts
pub mod Pairs
pub mod Index
pub mod Reaches
