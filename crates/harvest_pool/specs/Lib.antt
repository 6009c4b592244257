pub mod Answers
pub mod Bounds
pub mod Made
pub mod RoundJson
pub mod Rounds
pub mod WholeRounds
pub mod Working
