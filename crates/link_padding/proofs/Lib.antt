-- Theorems on the padded profile of one link.
pub mod Stages
pub mod Counts
pub mod Level
pub mod Before
pub mod Flushed
pub mod SentBehind
