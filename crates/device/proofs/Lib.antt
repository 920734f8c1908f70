pub mod Programs
pub mod Layers
pub mod Sums
pub mod Plays
pub mod Loops
pub mod Flows
pub mod MemoryLaws
pub mod Prices
