pub mod Types
pub mod Seen
pub mod Partners
pub mod Changes
pub mod Laws
pub mod Views
pub mod Kept
pub mod Inside
