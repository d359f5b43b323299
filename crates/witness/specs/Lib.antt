pub mod Walk
pub mod Answer
pub mod InCode
