pub mod Layout
pub mod Pages
pub mod Sectors
pub mod Memory
pub mod Store
pub mod Judge
pub mod Plain
pub mod Promise
