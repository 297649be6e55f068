pub mod Fields
pub mod Infos
pub mod Records
pub mod Written
