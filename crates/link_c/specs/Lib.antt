-- Definitions of crate link_c: the answers of a link as structs of numbers and flags.
pub mod SetUpFields
pub mod BodyPlace
pub mod ClockFields
