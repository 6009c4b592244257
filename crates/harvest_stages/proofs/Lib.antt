pub mod ChangeLemmas
mod Examples
pub mod FoundLemmas
pub mod GroupLemmas
pub mod KeptLemmas
pub mod LocatedLemmas
pub mod MapLemmas
pub mod PartLemmas
pub mod PreparedLemmas
pub mod RestLemmas
pub mod RestoreLemmas
pub mod RestoringLaws
pub mod SourceLemmas
pub mod StepLemmas
