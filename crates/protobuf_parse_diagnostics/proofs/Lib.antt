pub mod Adding
mod Breaking
mod Laters
