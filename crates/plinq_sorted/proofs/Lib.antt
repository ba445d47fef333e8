mod OneOrder
mod Slices
