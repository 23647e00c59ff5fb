-- Laws of crate invoke_in: the invoke reader.
pub mod InvokeLaws
