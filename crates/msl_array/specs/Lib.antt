pub mod Arrays
pub mod Moves
