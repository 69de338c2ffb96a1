pub mod Numbers
pub mod Names
pub mod Bearers
pub mod Paths
pub mod Views
pub mod InnerViews
pub mod Bytes
pub mod Whole
