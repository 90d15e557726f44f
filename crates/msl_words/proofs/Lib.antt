pub mod Forms
pub mod Matches
pub mod Numerals
pub mod Ranges
pub mod Rules
pub mod Takes
pub mod Walks
