pub mod Opens
pub mod Words
pub mod Cursors
pub mod Parts
