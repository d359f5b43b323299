pub mod Turns
pub mod Made
pub mod Exact
pub mod Driven
