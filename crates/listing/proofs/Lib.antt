pub mod Texts
pub mod Decimals
pub mod Rows
pub mod Words
pub mod Outputs
pub mod Cases
