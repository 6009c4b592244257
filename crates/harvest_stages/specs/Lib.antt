pub mod AtRest
pub mod Groups
pub mod Prepared
pub mod Ready
pub mod Restored
pub mod Stages
