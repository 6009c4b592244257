pub mod AnswerLemmas
pub mod BatchLemmas
pub mod ChangeLemmas
pub mod CreateLemmas
pub mod DropLemmas
mod Examples
pub mod FilledLemmas
pub mod FitLemmas
pub mod ReferenceLemmas
pub mod SummaryLemmas
pub mod KeepLemmas
mod ConsistencyExamples
pub mod LinkLemmas
pub mod LengthLemmas
pub mod RangeLemmas
pub mod RowReferences
pub mod ViewLemmas
pub mod RestoredLemmas
pub mod RestrictLemmas
pub mod TableLemmas
pub mod ErrorLemmas
