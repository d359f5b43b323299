pub mod Lent
pub mod Sheets
