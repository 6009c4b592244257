pub mod TableSummary
pub mod CallView
pub mod View
pub mod Viewer
pub mod Visibility
pub mod Lookup
