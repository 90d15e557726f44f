pub mod Pruned
pub mod Visiting
