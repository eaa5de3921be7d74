-- The codes: their settings, words and positions, syndromes, the distance, and what the hard stage answers.
pub mod Settings
pub mod Entries
pub mod Copies
pub mod Trials
pub mod Counting
pub mod Flipped
pub mod Behind
pub mod SyndromeLaws
pub mod Positions
pub mod Distance
pub mod HardLaws
