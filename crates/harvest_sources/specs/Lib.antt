pub mod Causes
pub mod Entries
pub mod Jobs
pub mod Listings
pub mod ReportJson
pub mod Sources
pub mod Steps
