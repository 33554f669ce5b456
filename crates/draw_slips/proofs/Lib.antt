-- The laws of draw_slips.
pub mod Text
