pub mod Duties
pub mod Tasks
pub mod Outcomes
pub mod Lines
pub mod Laws
