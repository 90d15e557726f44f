pub mod Answers
pub mod Lines
pub mod Feeding
pub mod Endings
pub mod Outputs
pub mod Reading
pub mod Working
pub mod Dealing
