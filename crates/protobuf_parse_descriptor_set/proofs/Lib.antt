pub mod Inside
pub mod Joining
pub mod BuiltIn
pub mod Synthetic
pub mod Indices
pub mod Lengths
