pub mod Coding
pub mod Costs
pub mod Rows
pub mod Trees
