pub mod Table
pub mod Gcd
pub mod Meaning
pub mod Lawful
pub mod Keeping
pub mod Operators
