-- The laws of draw_chain.
pub mod Text
