pub mod FigureRows
pub mod Figures
pub mod FigureText
pub mod Tallies
pub mod TallyRows
