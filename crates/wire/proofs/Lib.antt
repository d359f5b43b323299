pub mod Widths
pub mod Stores
pub mod Floats
pub mod Joins
