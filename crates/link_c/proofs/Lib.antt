-- Laws of crate link_c.
pub mod BodyHeld
