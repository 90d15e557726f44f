pub mod Plans
pub mod Planning
pub mod PlanLaws
pub mod Examples
