pub mod Numbers
pub mod Plans
