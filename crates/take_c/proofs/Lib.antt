-- Laws of crate take_c.
pub mod TimesLaws
