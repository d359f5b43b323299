pub mod Exported
pub mod Fed
pub mod Carried
pub mod Driven
pub mod Holding
pub mod Crashed
pub mod Night
