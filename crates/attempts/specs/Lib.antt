pub mod Namings
pub mod Attempts
