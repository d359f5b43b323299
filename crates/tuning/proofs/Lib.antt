pub mod Rows
pub mod Programs
pub mod Turns
