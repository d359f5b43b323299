pub mod Upward
pub mod Baseband
pub mod Lengths
pub mod Worked
pub mod Fits
