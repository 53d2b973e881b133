pub mod Character
pub mod Characters
pub mod Fault
pub mod Numbers
