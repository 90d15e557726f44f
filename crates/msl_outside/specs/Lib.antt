pub mod Causes
pub mod Fetching
pub mod Known
pub mod Memory
