pub mod Door
pub mod Location
pub mod Port
pub mod Stream
