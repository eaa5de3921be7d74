mod Laddered
mod Promises
mod Raised
mod Sizes
mod Strips
pub mod Unpacked
