pub mod FoundFirst
pub mod Including
pub mod Building
mod NumbersApart
mod Checking
pub mod Sourcing
