pub mod Nodes
pub mod Visits
