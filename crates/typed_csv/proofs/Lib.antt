pub mod ChunkLemmas
pub mod ColumnLemmas
pub mod HeaderLemmas
pub mod LawLemmas
pub mod LoaderLemmas
pub mod PieceLemmas
pub mod PositionLemmas
pub mod ReceivedLemmas
pub mod RecordLemmas
pub mod RowLemmas
mod Examples
