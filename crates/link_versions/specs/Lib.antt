-- What the theorems on the lowest version speak of.
pub mod Heard
pub mod Before
