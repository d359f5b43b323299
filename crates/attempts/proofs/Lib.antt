pub mod Named
pub mod Lasts
pub mod Played
pub mod Doubt
pub mod Worked
