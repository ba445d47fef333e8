pub mod After
mod Arrived
mod Folds
mod Handed
mod Headline
mod Merged
mod PartsGiven
mod Pieces
mod Runs
mod Stopping
mod RunWords
