pub mod CellLemmas
pub mod FillLemmas
pub mod JsonBack
pub mod JsonLemmas
pub mod KeptOrder
pub mod KeptReading
pub mod KeyLemmas
pub mod KindLemmas
pub mod MemberLemmas
pub mod OrgLemmas
pub mod OrderLemmas
pub mod RangeLemmas
pub mod ReadLemmas
pub mod SameLemmas
pub mod SchemaLemmas
pub mod TableLemmas
pub mod ZipLemmas
mod Examples
