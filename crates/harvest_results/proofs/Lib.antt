pub mod BalanceLemmas
pub mod ChangeLemmas
pub mod CountLemmas
pub mod EndingLemmas
pub mod EqualityLemmas
mod Examples
mod HistoryExamples
pub mod HistoryLemmas
pub mod ItemLemmas
pub mod JobIdLemmas
pub mod JobLemmas
pub mod LookupLemmas
pub mod NameLemmas
pub mod NumberLemmas
pub mod PhaseLemmas
pub mod ReportLemmas
pub mod ResultLemmas
pub mod SettlingLemmas
pub mod SourceEntryLemmas
