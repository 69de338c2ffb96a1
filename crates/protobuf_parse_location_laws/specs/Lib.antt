pub mod Written
pub mod Standing
pub mod Law
