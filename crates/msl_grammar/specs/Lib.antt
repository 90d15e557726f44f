pub mod Known
pub mod Uses
pub mod ScriptGrammar
pub mod Following
pub mod Clauses
