pub mod Values
pub mod Ratios
