pub mod Layout
pub mod Calls
pub mod Answer
