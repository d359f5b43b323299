pub mod Record
pub mod Calls
pub mod Orders
pub mod InCode
