-- Definitions of crate walk_progress: the start.
pub mod Start
