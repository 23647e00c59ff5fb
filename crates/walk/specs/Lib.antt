-- The definitions that the contract of `walk` cites; those of the event format are in crate walk_events, those of one
-- event in crate walk_turn.
pub mod Walk
