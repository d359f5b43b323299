pub mod Programs
pub mod Histories
pub mod Holding
