pub mod KeywordLengths
pub mod NameWords
pub mod FieldCounts
pub mod FieldSteps
pub mod Numerals
pub mod NumberFields
pub mod DigitsAhead
pub mod OpeningSteps
pub mod Printed
pub mod PrintedIntegers
pub mod SpelledWords
pub mod SpelledCommands
pub mod JoinedFields
pub mod PlainWords
pub mod SpelledLines
mod PrintableLines
pub mod PrintableText
pub mod SpelledText
pub mod Called
mod Lemmas
