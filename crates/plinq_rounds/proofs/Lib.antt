mod BlockLaws
mod Coming
mod PassLaws
mod Streaming
mod TallyingLaws
