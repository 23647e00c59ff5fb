-- Definitions of crate text: the text form.
pub mod TextForm
