mod MadeBlocks
mod Placed
mod Ranking
