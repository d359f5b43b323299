pub mod Least
pub mod Proved
