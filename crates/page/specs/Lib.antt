-- Read in this order.
pub mod Page
pub mod Digits
