pub mod Index
pub mod Steps
pub mod Truncation
pub mod Worked
