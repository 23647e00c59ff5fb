-- Laws of crate text: the text form.
pub mod TextLaws
