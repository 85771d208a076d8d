-- What holds of words, for the answers.
pub mod Lines
pub mod Given
