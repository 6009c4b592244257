pub mod Changed
pub mod Keeping
pub mod Memory
pub mod Rows
pub mod Slots
