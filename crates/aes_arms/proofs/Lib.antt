-- Laws of tables that are matches.
pub mod Arms
