pub mod States
pub mod Answers
pub mod Runs
pub mod Plays
pub mod Reactions
