pub mod Carrying
pub mod FirstNumbers
pub mod Names
pub mod Only
pub mod Rising
pub mod Standing
pub mod Walked
pub mod Walks
