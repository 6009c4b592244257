mod Examples
pub mod LoadingLemmas
pub mod TransactionLemmas
