pub mod Answer
pub mod Held
pub mod Located
pub mod Search
pub mod Single
pub mod Tables
