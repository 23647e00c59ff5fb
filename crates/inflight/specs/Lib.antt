-- The definitions that the contracts cite, in reading order; a reader of demand 3 needs Numbers, Requests, Matching,
-- Model and Calls.
pub mod Numbers
pub mod Requests
pub mod Matching
pub mod Model
pub mod Masks
pub mod Tables
pub mod Calls
