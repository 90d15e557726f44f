pub mod Lists
pub mod Combined
pub mod Replays
pub mod ByPath
pub mod Covered
