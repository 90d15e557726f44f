pub mod Functions
pub mod Nodes
pub mod Ranks
pub mod Results
pub mod Shapes
pub mod Sizes
pub mod Spending
pub mod Steps
