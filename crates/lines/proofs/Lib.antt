pub mod Digits
mod Readings
mod Cuts
pub mod Commands
pub mod Counts
mod Roundtrips
mod Spaces
pub mod Typed
pub mod Printed
