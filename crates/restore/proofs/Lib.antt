pub mod Runs
pub mod Listed
pub mod Whole
pub mod Writes
