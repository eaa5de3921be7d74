pub mod Weakest
pub mod Levels
pub mod Cursors
