pub mod Record
pub mod Programs
pub mod Calls
pub mod InCode
