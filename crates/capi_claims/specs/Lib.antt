-- The demands, said of the functions that programs in C and Rust call.
pub mod Answered
pub mod Silence
pub mod Recovery
