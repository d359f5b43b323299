pub mod Formed
pub mod Tables
