pub mod Listing
pub mod Settings
pub mod ListedOptions
pub mod Parts
pub mod Puts
pub mod Unescaped
