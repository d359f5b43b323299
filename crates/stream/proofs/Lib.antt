pub mod Laws
pub mod Images
pub mod Cuts
pub mod Unused
pub mod Worked
