pub mod Echoing
pub mod Shelving
