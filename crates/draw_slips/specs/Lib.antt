-- How the slips are drawn.
pub mod Text
