-- The laws that the bodies of the calls share.
pub mod Laws
