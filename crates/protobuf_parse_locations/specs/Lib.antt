pub mod Declarations
pub mod Views
pub mod Lookups
pub mod Adds
pub mod Marks
pub mod Kept
pub mod Keeping
pub mod Ignoring
