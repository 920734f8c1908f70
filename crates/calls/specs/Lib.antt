pub mod Promise
pub mod Files
pub mod Of
