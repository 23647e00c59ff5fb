-- The ways of each call on a link, and what every call keeps of a key.
pub mod Ways
pub mod KeyKept
