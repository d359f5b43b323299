pub mod Programs
pub mod Free
pub mod Lengths
pub mod Fits
