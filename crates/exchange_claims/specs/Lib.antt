-- M-100: after how many turns an exchange is done.
pub mod Done
pub mod OutOfTurn
