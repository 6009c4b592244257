mod Examples
pub mod JobIds
mod JobLemmas
pub mod ListLemmas
mod ObjectLemmas
pub mod PlaceLemmas
