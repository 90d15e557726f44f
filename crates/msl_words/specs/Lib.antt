pub mod Grammar
pub mod Progress
pub mod Verbs
pub mod Words
