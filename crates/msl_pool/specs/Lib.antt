pub mod Working
pub mod Turning
