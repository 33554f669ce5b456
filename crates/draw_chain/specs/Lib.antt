-- How a chain is drawn.
pub mod Text
