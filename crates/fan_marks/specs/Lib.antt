pub mod Book
pub mod Keys
pub mod Selected
pub mod Slot
pub mod Stored
pub mod Summary
