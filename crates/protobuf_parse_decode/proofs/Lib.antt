pub mod Steps
pub mod CodeViews
pub mod Packing
pub mod Telling
pub mod MessageLevels
pub mod SmallNumbers
pub mod Later
pub mod Joining
