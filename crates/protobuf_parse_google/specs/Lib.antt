pub mod Google
