-- What the contracts of payload cite: the custom data of 9.2, and what Table 3 says of their protection. Both halves,
-- the tag and the reader's side, have it here.
pub mod Data
pub mod Protected
