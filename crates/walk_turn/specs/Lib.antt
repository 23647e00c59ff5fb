-- Definitions of crate walk_turn: the lines, and one event.
pub mod Lines
pub mod Wrote
pub mod Turn
