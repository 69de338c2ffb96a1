pub mod Lists
pub mod Firsts
pub mod Levels
pub mod Ways
pub mod Knowing
pub mod Passing
