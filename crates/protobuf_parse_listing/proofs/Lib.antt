pub mod Appending
pub mod OptionLines
pub mod UnescapedRuns
pub mod Quoting
