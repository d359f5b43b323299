pub mod Packets
pub mod Heard
