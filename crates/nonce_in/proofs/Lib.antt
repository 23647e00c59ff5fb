-- Laws of crate nonce_in, and those of clocks.
pub mod FieldLaws
pub mod ClockLaws
