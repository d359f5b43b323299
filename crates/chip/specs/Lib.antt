pub mod Chips
pub mod Entries
pub mod Steps
pub mod Calls
pub mod Courses
pub mod InCode
pub mod Brackets
