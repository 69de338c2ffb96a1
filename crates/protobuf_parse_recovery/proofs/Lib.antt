pub mod Blanks
pub mod Rounds
pub mod Told
