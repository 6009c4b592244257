pub mod AcceptLemmas
pub mod AmongLemmas
pub mod ApartLemmas
pub mod CellLemmas
pub mod DeleteLemmas
pub mod DraftLemmas
mod Examples
pub mod FirstLemmas
pub mod KeptLemmas
pub mod KeyLemmas
pub mod KeySetLemmas
pub mod LookupLemmas
pub mod MeetLemmas
pub mod Merged
pub mod NumberLemmas
pub mod PairLemmas
pub mod PutLemmas
pub mod ReferenceLemmas
pub mod RestoredLemmas
pub mod ResultLemmas
pub mod RowLemmas
pub mod RuleLemmas
pub mod SearchLemmas
pub mod StoreLemmas
pub mod WorkLemmas
mod WrittenLemmas
