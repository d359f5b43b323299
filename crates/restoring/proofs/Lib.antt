pub mod Overs
pub mod Telling
pub mod Backward
pub mod Laying
pub mod Settled
