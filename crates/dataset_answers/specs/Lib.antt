pub mod Answers
pub mod Bodies
pub mod Changed
pub mod Dictionary
pub mod Edits
pub mod Fit
pub mod Lookup
pub mod Sound
