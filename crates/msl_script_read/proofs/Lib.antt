pub mod Items
pub mod StageLeaves
pub mod WholeFunctions
pub mod WholeScripts
pub mod WholeStages
