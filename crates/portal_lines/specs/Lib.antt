pub mod PartialLines
pub mod Lines
