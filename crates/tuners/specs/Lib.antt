pub mod Over
pub mod Still
