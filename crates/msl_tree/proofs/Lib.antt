pub mod Found
pub mod Values
pub mod Combining
pub mod Joined
