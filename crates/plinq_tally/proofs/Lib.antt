pub mod FigureLaws
pub mod TallyLaws
pub mod TimesLaws
