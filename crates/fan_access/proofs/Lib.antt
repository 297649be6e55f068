pub mod EachRound
pub mod Steps
pub mod Turns
pub mod TwoMarks
