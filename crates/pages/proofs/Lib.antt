pub mod Bytes
pub mod Counts
pub mod Setting
pub mod Kept
pub mod Looks
pub mod Served
pub mod Writes
