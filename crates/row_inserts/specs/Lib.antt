pub mod Inserts
pub mod InsertsValue
pub mod Laws
pub mod Piece
pub mod Records
