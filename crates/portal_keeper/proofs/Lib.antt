mod Examples
pub mod RowLemmas
pub mod SlotLemmas
