pub mod Going
pub mod Synthetic
pub mod Messages
pub mod FirstFound
pub mod Putting
pub mod Words
pub mod WrittenOneofs
