-- Laws of crate invoke_out: the invoke writer.
pub mod WriteLaws
