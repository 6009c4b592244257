pub mod Action
pub mod Answer
pub mod Body
pub mod BodyValues
pub mod Stop
pub mod Topic
