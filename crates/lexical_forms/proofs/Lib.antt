mod CharacterLemmas
mod Examples
pub mod FieldFormLemmas
mod FieldNameLemmas
pub mod FormLemmas
pub mod InsideLemmas
pub mod NumberFormLemmas
mod NumberLemmas
pub mod NumberTextLemmas
mod PartLemmas
pub mod ReadingLemmas
mod SignificandLemmas
mod SizeLemmas
