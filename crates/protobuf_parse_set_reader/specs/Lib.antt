pub mod Answers
pub mod Values
pub mod Choices
pub mod OptionReading
pub mod TypeNames
pub mod Bodies
pub mod Reading
pub mod SourceInfo
