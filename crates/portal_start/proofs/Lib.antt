pub mod Beginning
mod Examples
pub mod FirstFetcher
pub mod Harvesting
