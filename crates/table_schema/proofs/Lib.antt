mod StampLemmas
pub mod CellLemmas
mod CellTextLemmas
mod ColumnLemmas
mod ConstraintLemmas
mod DescriptorLemmas
mod Examples
mod IndexLemmas
mod KeyLemmas
mod OrderLemmas
mod PrintLemmas
mod PrintedTextLemmas
mod TextLemmas
mod ValueLemmas
pub mod WrittenLemmas
