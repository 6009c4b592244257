pub mod Commands
pub mod Fetchers
pub mod HarvestCommand
pub mod OverStore
pub mod Start
