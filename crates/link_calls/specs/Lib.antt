-- Any calls on a link.
pub mod Calls
