pub mod Demo
pub mod Script
pub mod Results
pub mod Laws
