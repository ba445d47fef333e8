pub mod MadeOf
mod PartLists
