pub mod Frames
pub mod Cache
pub mod Tie
pub mod Promise
