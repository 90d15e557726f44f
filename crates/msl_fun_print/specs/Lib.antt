pub mod FunText
pub mod Writing
