pub mod Fetch
pub mod Status
