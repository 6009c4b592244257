mod Acting
pub mod Passing
mod Receiving
pub mod Writing
