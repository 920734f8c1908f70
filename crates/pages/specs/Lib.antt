pub mod Counting
pub mod Words
pub mod Flags
pub mod Of
pub mod Writing
pub mod Serving
