pub mod Counts
pub mod Totals
pub mod Tokens
pub mod Moves
pub mod Nodes
pub mod Covering
pub mod Worlds
pub mod Applying
