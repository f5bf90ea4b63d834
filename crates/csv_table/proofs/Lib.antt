pub mod RowFacts
pub mod DigitFacts
pub mod Plain
pub mod Tables
pub mod PlainRows
pub mod DigitTexts
