pub mod ScriptText
pub mod Words
