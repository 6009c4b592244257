pub mod Columns
pub mod Counts
pub mod Datasets
pub mod Report
pub mod Tables
