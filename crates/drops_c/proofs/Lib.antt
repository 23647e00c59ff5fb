-- Laws of crate drops_c.
pub mod TimesLaws
