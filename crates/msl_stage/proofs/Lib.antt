pub mod Steps
pub mod Feeding
pub mod Finishing
pub mod Filtering
pub mod Reading
pub mod Ended
pub mod WorkingLaws
pub mod DealingLaws
