pub mod Oscillator
pub mod Repaired
pub mod Rests
pub mod Sharp
pub mod Thousands
pub mod Worked
