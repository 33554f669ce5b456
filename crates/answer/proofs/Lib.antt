-- The laws of answer.
pub mod Perform
pub mod New
