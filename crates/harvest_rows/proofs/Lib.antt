mod Examples
pub mod JobLemmas
pub mod KeptLemmas
pub mod KindLemmas
pub mod ListLemmas
pub mod MemberLemmas
pub mod NumberLemmas
pub mod ReadLemmas
pub mod ReportLemmas
pub mod SourceLemmas
