pub mod Scripts
pub mod Driven
