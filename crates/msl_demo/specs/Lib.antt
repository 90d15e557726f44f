pub mod Outputs
pub mod Tallies
pub mod Reading
