-- Samples, and the ladder that makes symbols of them.
pub mod SampleLaws
pub mod SampleSteps
