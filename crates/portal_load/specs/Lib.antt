pub mod Load
pub mod Progress
pub mod SchemaFile
pub mod Stop
