pub mod Exits
pub mod Leaves
pub mod FilterLeaves
pub mod Texts
