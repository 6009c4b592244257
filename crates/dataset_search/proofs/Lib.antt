mod FindLemmas
pub mod KeyLemmas
pub mod LawLemmas
pub mod PageLemmas
