pub mod Laid
pub mod Fitting
pub mod Reading
pub mod Rows
pub mod Exact
pub mod Worked
pub mod Bare
pub mod Words
