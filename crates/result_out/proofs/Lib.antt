-- Laws of crate result_out: the writers of a result.
pub mod WriteLaws
