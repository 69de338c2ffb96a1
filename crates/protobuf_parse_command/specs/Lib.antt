pub mod Made
pub mod Sound
pub mod Checked
pub mod Infos
pub mod Finding
pub mod Dependencies
