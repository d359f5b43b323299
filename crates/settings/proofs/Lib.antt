pub mod Laws
pub mod Images
pub mod Exact
pub mod Editions
pub mod Moves
pub mod Newer
pub mod Worked
