-- What the contracts of plan cite: the reader's messages in an exchange (M-100).
pub mod Drafts
