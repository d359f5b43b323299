pub mod Alike
pub mod Order
pub mod Programs
pub mod Rows
pub mod Rounds
pub mod Driven
pub mod Ended
pub mod Worked
