pub mod Passed
pub mod Record
