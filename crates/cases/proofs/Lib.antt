-- The one statement over the table, and laws that nothing cites now.
pub mod Starred
pub mod Former
