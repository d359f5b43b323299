pub mod Runs
pub mod Overs
pub mod Lines
