pub mod Acts
pub mod Alone
pub mod Ends
pub mod Keeps
pub mod Prefixes
pub mod Seats
pub mod Sums
