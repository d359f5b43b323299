pub mod Mux
pub mod Tries
pub mod InCode
pub mod Program
