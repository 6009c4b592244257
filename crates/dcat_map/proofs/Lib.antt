mod Examples
pub mod DistributionLemmas
pub mod InOrder
pub mod InstantLemmas
pub mod LawLemmas
pub mod Leasts
pub mod ListingLemmas
pub mod Marks
pub mod Memberships
pub mod Orders
pub mod Ranges
pub mod RecordLemmas
pub mod SetLemmas
pub mod SharedLemmas
pub mod Steps
