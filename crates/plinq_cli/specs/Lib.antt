pub mod Rounds
pub mod ServeFaults
pub mod Told
pub mod Served
pub mod Performed
pub mod ProgramRows
pub mod inner
