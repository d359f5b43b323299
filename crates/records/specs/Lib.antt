pub mod Fields
pub mod Tuners
pub mod Drivers
