pub mod File
pub mod Keyed
pub mod Opening
pub mod Rules
pub mod Tables
