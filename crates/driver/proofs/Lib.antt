pub mod Xtals
pub mod Making
pub mod Refusals
pub mod Paths
pub mod Rates
pub mod Trues
pub mod Lengths
pub mod Corrections
