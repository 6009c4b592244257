pub mod KeptHarvests
pub mod Readings
pub mod Rows
