pub mod Engines
pub mod Fir
pub mod Giving
pub mod Words
