pub mod Lists
pub mod Programs
