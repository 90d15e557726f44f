pub mod Passes
pub mod Shares
pub mod Gathered
pub mod Marks
pub mod Moved
pub mod Answered
