pub mod Cells
pub mod Grids
pub mod Matrices
pub mod Rotations
