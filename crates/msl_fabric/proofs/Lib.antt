pub mod Exchanges
pub mod Grids
pub mod Rounds
pub mod Rows
pub mod Turns
