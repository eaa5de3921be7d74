-- The locator by logarithms, read from the tables, and the hard stage's answer from the positions found.
pub mod LogBounds
pub mod LogRoots
pub mod LogLocator
pub mod LogPairs
pub mod LogTrios
pub mod LogLocated
pub mod LogSteps
pub mod Repairs
pub mod LogAnswers
pub mod FewRepairs
pub mod Seeking
