mod Examples
mod PortLemmas
mod StreamExamples
pub mod Streaming
