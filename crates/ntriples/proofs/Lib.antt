mod Examples
mod Productions
pub mod DocumentLemmas
pub mod Suffixes
pub mod QuotedLemmas
pub mod NameLemmas
pub mod Encoded
pub mod ReadAgain
pub mod Readings
pub mod Again
pub mod NamesAgain
pub mod TermsAgain
pub mod Pieces
pub mod Quotes
pub mod Labels
pub mod Tags
pub mod Objects
pub mod Lines
pub mod DocumentAgain
pub mod DocumentForms
