pub mod Turns
pub mod Hearing
pub mod Cases
pub mod Exact
pub mod Worked
