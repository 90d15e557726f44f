pub mod Parts
pub mod Outcomes
pub mod Places
pub mod Cells
pub mod Folds
pub mod Windows
