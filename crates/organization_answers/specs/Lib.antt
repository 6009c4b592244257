pub mod Answers
pub mod Bodies
pub mod Dictionary
pub mod Fit
pub mod Owners
