pub mod Table
pub mod Entries
pub mod Sections
