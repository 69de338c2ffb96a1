pub mod Breaches
pub mod Codes
pub mod Options
pub mod OptionViews
pub mod Fields
pub mod Files
pub mod Statements
pub mod Views
