pub mod Error
pub mod Query
pub mod Reply
pub mod Request
