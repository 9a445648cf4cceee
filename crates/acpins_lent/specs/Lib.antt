pub mod Joined
pub mod Lent
