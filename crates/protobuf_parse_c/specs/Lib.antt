pub mod ByPath
pub mod Handed
pub mod Answers
pub mod Copies
