pub mod HarvestHistory
pub mod Hidden
pub mod History
pub mod Own
pub mod Restored
