pub mod Covering
pub mod Finding
