-- What stands behind a call.
pub mod Row
