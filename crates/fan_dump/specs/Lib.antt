pub mod Dump
pub mod Gathered
pub mod Printed
pub mod Texts
