mod Asked
mod Over
mod Put
mod ClosureBlocks
mod Within
