pub mod Cut
pub mod Demands
pub mod Grammar
pub mod Index
pub mod Items
pub mod Reading
pub mod Terms
