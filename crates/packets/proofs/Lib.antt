pub mod Written
pub mod Reading
pub mod Units
pub mod Begins
pub mod Worked
