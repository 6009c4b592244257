pub mod Digits
pub mod FieldName
pub mod Forms
pub mod Separator
pub mod Number
pub mod NumberText
pub mod Significand
