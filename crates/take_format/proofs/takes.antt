-- Takes: the words of one, what is answered for them, and the promise.
pub mod Parts
pub mod Batches
pub mod PromiseLaws
pub mod OnePromise
pub mod TakeLaws
pub mod Reading
