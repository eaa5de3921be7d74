pub mod Cases
pub mod Fields
pub mod Lines
pub mod Widths
pub mod PageLaws
pub mod Layings
pub mod Refusing
pub mod Outputs
