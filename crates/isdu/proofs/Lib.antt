mod Closed
pub mod Cuts
pub mod Further
mod Hopes
mod Reopened
pub mod Replies
pub mod Requests
pub mod Verdicts
