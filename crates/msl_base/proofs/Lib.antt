pub mod Filling
pub mod Lists
pub mod StreamLaws
pub mod Names
pub mod Tiles
pub mod Codes
