-- The test words, and how their syndromes are had one from another.
pub mod Reach
pub mod TestWords
pub mod TestSums
pub mod Doublings
