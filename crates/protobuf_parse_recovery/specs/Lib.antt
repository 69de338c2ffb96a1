pub mod Masking
pub mod Recovery
pub mod Laws
