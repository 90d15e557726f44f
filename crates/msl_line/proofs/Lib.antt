pub mod Outcomes
pub mod Streams
pub mod Steps
pub mod Runs
pub mod Parts
