mod Examples
mod PartLemmas
