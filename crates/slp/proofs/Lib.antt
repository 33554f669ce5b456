-- The laws of slp.
pub mod Records
