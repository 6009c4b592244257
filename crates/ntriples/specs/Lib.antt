pub mod Characters
pub mod Document
pub mod Grammar
pub mod ParsedLines
pub mod Parsing
pub mod Reading
pub mod Written
