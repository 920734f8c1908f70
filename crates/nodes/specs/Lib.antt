pub mod Entries
pub mod Page
pub mod Firsts
pub mod Numbers
pub mod Laws
