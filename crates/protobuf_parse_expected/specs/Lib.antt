pub mod Expected
pub mod Reading
