pub mod Text
pub mod Takelist
pub mod Written
pub mod Shown
pub mod Rows
pub mod Put
