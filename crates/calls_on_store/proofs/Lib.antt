pub mod Wholly
pub mod Syncs
pub mod Played
pub mod Foreign
pub mod Counted
