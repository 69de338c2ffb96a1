pub mod Trimmed
pub mod Gathered
pub mod Reports
pub mod Judging
pub mod SoFar
pub mod Laws
pub mod Places
