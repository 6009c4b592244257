pub mod JsonRow
pub mod KeptValues
pub mod OrgRows
pub mod Readings
pub mod TableRows
pub mod VersionRow
