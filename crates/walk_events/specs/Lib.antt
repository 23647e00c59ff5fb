-- Definitions of crate walk_events: the event format.
pub mod Events
pub mod Kinds
