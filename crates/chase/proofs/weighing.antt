-- What words weigh, the acceptance rule, and how large the numbers get.
pub mod Weighing
pub mod Weights
pub mod Sizes
pub mod Bounded
