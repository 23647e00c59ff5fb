-- Laws of padding, for the crates above.
pub mod PaddingLaws
