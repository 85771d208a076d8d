-- What the contracts of reader_build cite: the Interrogator's messages of clause 9, and number 24 of a builder.
pub mod Makes
pub mod Builds
