mod AsciiLemmas
pub mod DecidingLemmas
pub mod DistinctLemmas
mod Examples
pub mod FieldNameLemmas
pub mod FilterLemmas
pub mod FirstsLemmas
pub mod GrammarLemmas
pub mod LeastLemmas
pub mod ListedLemmas
pub mod ListingLemmas
pub mod OrderLemmas
pub mod PartLemmas
pub mod PassingLemmas
pub mod ResultLemmas
pub mod RowLemmas
pub mod SearchLemmas
pub mod SelectLemmas
pub mod SortLemmas
pub mod SortReadingLemmas
pub mod TokenLemmas
pub mod ValueLemmas
pub mod WordLemmas
