pub mod Grammar
pub mod Parsing
pub mod Parse
pub mod Naming
pub mod Calls
pub mod Binding
pub mod Declaring
