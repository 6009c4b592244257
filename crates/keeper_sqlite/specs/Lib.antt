pub mod Applying
pub mod Faults
pub mod Form
pub mod Loading
pub mod RowValues
pub mod SqliteState
pub mod Statements
pub mod Transactions
