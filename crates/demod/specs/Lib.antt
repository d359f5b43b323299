pub mod Programs
pub mod Calls
