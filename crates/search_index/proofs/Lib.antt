pub mod CutLemmas
pub mod DemandLemmas
pub mod EntryLemmas
mod Examples
pub mod FillLemmas
pub mod GrammarLemmas
pub mod ReadingLemmas
pub mod TermLemmas
