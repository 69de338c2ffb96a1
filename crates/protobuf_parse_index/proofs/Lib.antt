mod Spelled
pub mod Walked
pub mod Positions
pub mod Dots
pub mod Putting
pub mod Finding
pub mod Named
