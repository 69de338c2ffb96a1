pub mod Stepping
pub mod Counts
pub mod Leads
pub mod Messages
pub mod Joining
