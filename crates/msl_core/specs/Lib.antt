pub mod Groups
pub mod Outcomes
pub mod Stored
pub mod Worlds
