pub mod Truth
pub mod Lent
pub mod Parts
