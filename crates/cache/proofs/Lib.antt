pub mod Loops
pub mod Served
