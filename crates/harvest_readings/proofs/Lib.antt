pub mod DocumentLemmas
mod Examples
pub mod FailureLemmas
pub mod FoundLemmas
pub mod HarvestLemmas
