-- What the theorems on the padded profile speak of.
pub mod Tally
pub mod Before
