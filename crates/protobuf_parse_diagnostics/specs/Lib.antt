pub mod Codes
pub mod Told
pub mod Telling
pub mod Broken
pub mod Arranged
pub mod Texts
pub mod Later
