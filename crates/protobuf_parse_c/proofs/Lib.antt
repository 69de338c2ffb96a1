pub mod Firsts
pub mod Making
