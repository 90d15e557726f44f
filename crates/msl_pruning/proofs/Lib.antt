pub mod Below
pub mod Prunes
pub mod Found
pub mod Works
pub mod Replays
pub mod Ends
