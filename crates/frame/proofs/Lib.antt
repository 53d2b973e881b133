pub mod AnswerBack
mod Apart
mod Caught
mod Good
mod Heard
pub mod MasterBack
mod Ones
mod Sealed
