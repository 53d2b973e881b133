pub mod Fitted
pub mod Rows
