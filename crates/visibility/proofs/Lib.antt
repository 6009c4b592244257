pub mod TableSummaryLemmas
pub mod PublicLemmas
pub mod ViewLemmas
mod Examples
pub mod VisibilityLemmas
