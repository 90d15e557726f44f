pub mod Grids
pub mod Moves
pub mod Routes
pub mod Targets
