pub mod Counts
pub mod Effects
pub mod Equality
pub mod Harvested
pub mod Histories
pub mod Readings
pub mod Results
