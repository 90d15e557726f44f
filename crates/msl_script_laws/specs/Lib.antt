pub mod Rows
pub mod Constructs
pub mod Meanings
pub mod Canonical
