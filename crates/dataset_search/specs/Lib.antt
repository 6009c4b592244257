pub mod Found
pub mod Order
pub mod Search
pub mod Sort
