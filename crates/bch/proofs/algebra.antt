-- Polynomials over a field of characteristic 2: Peterson's locator and its roots, power sums, and the roots by κ.
pub mod Ring2
pub mod Peterson
pub mod Unique
pub mod Roots
pub mod Kappa
