-- What the contracts of the reader's side share: its keys, the scope paper's numbers 20 to 24, and what 24 asks of the
-- own message.
pub mod Keys
pub mod Numbers
pub mod Own
