pub mod Nodes
mod Visits
