-- What memory's contracts cite.
pub mod Address
pub mod Areas
pub mod Rights
