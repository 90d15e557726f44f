pub mod Listed
pub mod Writings
