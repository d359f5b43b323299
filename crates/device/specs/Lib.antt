pub mod Accesses
pub mod Calls
pub mod Gpio
pub mod InCode
