pub mod Inverse
pub mod Lists
pub mod Widths
pub mod Worked
