pub mod Shapes
pub mod Meaning
pub mod Budget
pub mod Checks
pub mod Evaluable
pub mod Muscle
