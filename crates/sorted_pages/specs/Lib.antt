pub mod Direction
pub mod Page
