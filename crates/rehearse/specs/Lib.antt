pub mod Digest
pub mod Script
