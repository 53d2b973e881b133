pub mod Below
pub mod Octets
pub mod Row
