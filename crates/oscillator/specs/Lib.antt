pub mod Registers
pub mod Bounds
