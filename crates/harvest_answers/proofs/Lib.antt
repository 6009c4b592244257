pub mod Examples
pub mod Fitting
pub mod JobLemmas
pub mod ViewLemmas
