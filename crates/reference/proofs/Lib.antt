pub mod Corrections
pub mod Wide
