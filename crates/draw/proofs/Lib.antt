-- The laws of draw.
pub mod Text
pub mod Example
