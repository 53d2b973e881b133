pub mod Check
pub mod Disturbed
pub mod Fault
pub mod Lengths
pub mod Message
pub mod View
