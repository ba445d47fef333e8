pub mod LineLaws
pub mod FieldLaws
pub mod StepLaws
pub mod StepPatternLaws
mod NumberLaws
pub mod SteadyLaws
pub mod BadLaws
mod PatternLaws
mod PatternRows
mod SeenLaws
