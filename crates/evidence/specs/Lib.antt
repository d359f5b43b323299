pub mod Demodulator
pub mod Evidence
pub mod Alike
pub mod Cuts
pub mod Summary
