-- How a pool is drawn.
pub mod Text
