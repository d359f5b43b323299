pub mod Boards
pub mod Exact
pub mod Laws
pub mod Only
pub mod Taken
pub mod Refused
