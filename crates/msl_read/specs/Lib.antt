pub mod Reading
pub mod Refusals
pub mod Front
pub mod Kinds
pub mod Parts
