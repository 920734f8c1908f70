pub mod Of
pub mod Serving
pub mod Opening
