pub mod Agree
pub mod Cases
pub mod Parts
pub mod Tables
