pub mod Image
pub mod Reading
