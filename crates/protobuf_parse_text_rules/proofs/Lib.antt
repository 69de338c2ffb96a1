pub mod Twice
pub mod Levels
