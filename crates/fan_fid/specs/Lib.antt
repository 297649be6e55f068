pub mod Infos
pub mod Written
pub mod Again
