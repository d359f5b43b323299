pub mod Divide
pub mod Fraction
pub mod Plan
pub mod Setting
