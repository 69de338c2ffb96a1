pub mod Following
pub mod Typing
pub mod Pairing
pub mod SameNames
pub mod Settling
pub mod Sound
pub mod Listing
pub mod Keeping
