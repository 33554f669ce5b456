-- The laws of page.
pub mod Ink
pub mod Digits
