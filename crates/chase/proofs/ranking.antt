-- The weakest order, by levels of reliability too; the keys that hold it, and what they hold of the positions that a word does not flip.
pub mod Ranking
pub mod Levels
pub mod Keys
pub mod Unflipped
pub mod Allowances
