pub mod Bits
pub mod Dividers
pub mod Fractions
pub mod Plans
pub mod Settings
