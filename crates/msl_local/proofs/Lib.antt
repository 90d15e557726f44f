pub mod Lists
pub mod Outcomes
pub mod Blocks
pub mod Cells
pub mod FoldParts
pub mod Running
pub mod Together
pub mod Windows
