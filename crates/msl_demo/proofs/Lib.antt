pub mod Inputs
pub mod Counting
pub mod Reading
pub mod Running
pub mod Scripts
pub mod Wording
