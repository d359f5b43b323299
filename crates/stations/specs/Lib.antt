pub mod Centre
pub mod Between
pub mod Locks
pub mod Rated
