pub mod Isdus
pub mod Worked
