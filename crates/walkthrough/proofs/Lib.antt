-- The laws of walkthrough.
pub mod Data
pub mod Shown
