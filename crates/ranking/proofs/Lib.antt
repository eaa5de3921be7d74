pub mod Cases
pub mod Marking
pub mod Steps
pub mod Cursors
pub mod Orders
pub mod Callers
