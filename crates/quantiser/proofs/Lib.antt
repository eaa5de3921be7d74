mod Bad
mod Counting
mod Symbols
