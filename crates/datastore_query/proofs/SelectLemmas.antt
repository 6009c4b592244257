-- The members of two lists that are joined, for the crates above.
pub use Rattle.sorted_pages.proofs.MemberLemmas.{IsIn-back, IsIn-either, IsIn-front}
