pub mod Laws
pub mod Attempted
pub mod Rooms
pub mod Lists
pub mod Chunks
pub mod Taken
pub mod Refusals
