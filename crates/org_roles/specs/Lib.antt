pub mod Changed
pub mod Distinct
pub mod Order
pub mod PeopleLists
pub mod Restored
pub mod Rights
