pub mod Steps
pub mod Going
pub mod Packed
pub mod Splitting
pub mod Levels
pub mod Naming
pub mod SameFiles
