pub mod Causes
pub mod Headline
pub mod Messages
pub mod Scripts
pub mod Statuses
pub mod TopCall
