pub mod Asked
pub mod ByPass
pub mod Desk
pub mod Tokens
pub mod Written
