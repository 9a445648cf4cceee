pub mod Separating
pub mod Zipping
pub mod Ordering
