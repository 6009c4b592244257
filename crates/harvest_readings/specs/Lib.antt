pub mod Catalogues
pub mod Documents
pub mod Harvests
