pub mod ChangeLemmas
mod Examples
pub mod LookupLemmas
pub mod PeopleLemmas
pub mod RestoreLemmas
