pub mod Addresses
pub mod Built
pub mod ChangeLemmas
pub mod DatasetLemmas
pub mod EntryLemmas
pub mod ErrorLemmas
pub mod FindLemmas
pub mod NoErrors
pub mod OwnerCounts
pub mod Reading
pub mod ResourceNumbers
pub mod RestoreLemmas
pub mod ShelfInvariantLemmas
pub mod ShelfLemmas
mod TextSets
