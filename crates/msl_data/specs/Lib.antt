pub mod Answers
pub mod Kinds
pub mod Tables
pub mod Steps
