-- How an answer is written.
pub mod Text
