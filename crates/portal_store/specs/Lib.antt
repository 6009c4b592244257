pub mod Location
pub mod Opening
pub mod RunStore
pub mod Stores
