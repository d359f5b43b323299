pub mod Commands
pub mod Pending
pub mod Feeding
pub mod InCode
