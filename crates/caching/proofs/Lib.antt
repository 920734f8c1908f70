pub mod Logic
pub mod Frames
pub mod Ties
pub mod Back
pub mod Calls
pub mod Layers
