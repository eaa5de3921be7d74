-- Encoding: words as numbers, division by the generator, the generators, and a word known by its syndromes.
pub mod Numbers
pub mod Division
pub mod Recover
pub mod Inverse
pub mod GeneratorLaws
pub mod EncodeLaws
