pub mod Walk
pub mod Exact
pub mod Worked
