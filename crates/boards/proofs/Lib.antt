pub mod Hops
pub mod Late
pub mod Unpathed
