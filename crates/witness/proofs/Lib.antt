pub mod Sizes
pub mod Slots
pub mod Waits
pub mod Gathered
pub mod Answered
pub mod Told
pub mod Worked
