pub mod Joining
pub mod Replying
