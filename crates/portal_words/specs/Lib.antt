pub mod Commands
pub mod FirstWord
pub mod Grammar
pub mod Options
