pub mod Lookups
pub mod Names
pub mod Fields
pub mod Constants
pub mod Options
pub mod Files
pub mod Views
pub mod InnerViews
