pub mod Faultless
pub mod Outcomes
pub mod Sums
pub mod Running
pub mod Summing
pub mod OneLine
pub mod Bytes
