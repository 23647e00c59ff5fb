-- What the search by four slots at a time does, for its private parts.
pub mod Four
