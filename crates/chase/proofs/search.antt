-- The search: what it gives, and its tries one after the other.
pub mod SearchLaws
pub mod Steps
pub mod Ready
pub mod Tries
pub mod Passing
