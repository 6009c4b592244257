pub mod Desking
pub mod Drawing
mod Examples
pub mod Fetching
pub mod Following
pub mod Fronts
pub mod Looping
pub mod Making
pub mod Outcomes
pub mod Playing
pub mod Repeating
pub mod Resting
pub mod Rounding
pub mod Serving
pub mod Staging
pub mod Unfailing
pub mod Working
