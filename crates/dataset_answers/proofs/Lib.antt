mod BodyLemmas
pub mod EditLemmas
mod Examples
pub mod Fitting
mod SoundLemmas
pub mod TableSummaryAnswers
pub mod TableSummaryLemmas
