mod Examples
pub mod LineLemmas
mod PieceLemmas
