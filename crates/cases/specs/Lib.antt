pub mod Escape
pub mod Tally
