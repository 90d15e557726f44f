pub mod Endings
pub mod Scripts
pub mod Texts
