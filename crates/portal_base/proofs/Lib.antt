pub mod CalendarLemmas
pub mod CivilLemmas
mod KeyErrorExamples
pub mod KeyErrorLemmas
pub mod Filtered
pub mod FormLemmas
pub mod Halved
mod IdExamples
pub mod IdForms
mod KindExamples
pub mod KindLaws
pub mod KindLemmas
pub mod IdLemmas
pub mod Inserted
mod JsonBack
mod JsonExamples
mod JsonKept
mod JsonLevels
mod JsonReading
mod JsonSame
mod JsonTurns
mod MomentExamples
pub mod MomentTextLemmas
mod NameExamples
mod OutsideExamples
pub mod OutsideLemmas
mod OrderedExamples
pub mod Upserted
pub mod ReadingBack
pub mod ReadingLemmas
mod JsonFirst
mod DictionaryExamples
pub mod DictionaryLemmas
pub mod Removed
pub mod Sorted
pub mod Unique
pub mod Words
