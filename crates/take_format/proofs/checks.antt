-- The checks of the calls and of takes: what they refuse, by which number, and what is accepted.
pub mod RefusalLaws
pub mod Numbers
pub mod CallLaws
pub mod Accepted
pub mod TakeChecks
