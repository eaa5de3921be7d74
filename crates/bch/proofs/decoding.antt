-- Decoding by the locator: where the errors are, and their positions in closed form from the syndromes.
pub mod Located
pub mod LocatorLaws
pub mod Sorting
pub mod Decoder
pub mod Elements
pub mod ElementLists
pub mod KappaDecoder
pub mod KappaSums
pub mod Solvers
pub mod ClosedForm
