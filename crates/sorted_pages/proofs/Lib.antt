pub mod DirectionLemmas
mod Examples
pub mod MemberLemmas
pub mod PageLemmas
pub mod SelectLemmas
