pub mod Answering
pub mod Appending
pub mod Digits
pub mod Rows
pub mod Splitting
pub mod Taking
pub mod Told
pub mod Decimals
