mod Counting
mod Leaving
