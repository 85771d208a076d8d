-- What holds of the two halves together, and the demands.
pub mod HasKeys
pub mod Entry
pub mod Openings
pub mod Recovery
pub mod Answered
pub mod Edges
pub mod Starts
pub mod ShutOut
pub mod Ways
pub mod Fixed
