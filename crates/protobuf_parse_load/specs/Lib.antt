pub mod Steps
pub mod Loads
pub mod Laws
pub mod StepLists
pub mod Requests
pub mod Frames
