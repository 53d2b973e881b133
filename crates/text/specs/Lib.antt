pub mod Digit
pub mod Number
pub mod Text
pub mod Why
